use native.Mathlib.Omega.{arith}
use Rattle.played.proofs.Rows.{seen_none, seen_more}
use Rattle.played.proofs.write_seen.Goals as goal

pub loop-row-init : goal.loop-row-init
loop-row-init c =
    let a = c.args in
    seen_none a.board.now a.cells.now a.width _ _ (omega arith)

pub loop-row-preserved : goal.loop-row-preserved
loop-row-preserved c =
    let a = c.args in
    seen_more a.board.now a.cells.now a.width c.loop-row.row (omega arith) c.loop-row.invariant
    c.write_seen_row-to.ensures
