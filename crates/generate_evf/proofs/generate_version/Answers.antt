-- `generate_version` meets its contract: its calls come to the whole file. Assumes nothing.
use Rattle.std.proofs.Common.{arith}
use Rattle.generate_evf.proofs.Whole.{steps}
use Rattle.generate_evf.proofs.generate_version.Goals as goal

pub returns : goal.returns
returns c =
    let a = c.args in
    steps a.version a.rule a.header a.bytes.now a.board.now a.row.now
    c.before_row-from.ensures c.judge_row-seen.ensures c.prepare-ready.ensures.0 c.prepare-ready.ensures.1
    c.put_row.ensures.1 (omega arith)
