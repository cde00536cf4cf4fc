-- `size_in_version` meets its contract: the row was seen from its start. Assumes nothing.
use Rattle.std.proofs.Common.{ap, ◌∙◌}
use Rattle.evf_records.specs.declared.Seen.{Seen}
use Rattle.evf_records.specs.Steps.{seen_by}
use Rattle.generate_evf.specs.Steps.{size_seen}
use Rattle.generate_evf.proofs.Whole.{size-seen}
use Rattle.generate_evf.proofs.size_in_version.Goals as goal

pub returns : goal.returns
returns c =
    let a = c.args in
    let ys = a.row.now in
    c.size_of.ensures ∙ ap (size_seen a.header a.bytes.now a.board.now)
    (c.judge_row-seen.ensures ∙ ap (λ (s : Seen). seen_by s ys) c.before_row-from.ensures)
    ∙ size-seen a.version a.rule a.header a.bytes.now a.board.now ys
