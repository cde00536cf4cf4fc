use native.Mathlib.Omega.{arith}
use Rattle.board_text.proofs.Rows.{board-none, board-more}
use Rattle.board_text.proofs.write_board.Goals as goal

pub loop-row-init : goal.loop-row-init
loop-row-init c =
    let a = c.args in
    board-none a.board.now a.width _ _ (omega arith)

pub loop-row-preserved : goal.loop-row-preserved
loop-row-preserved c =
    let a = c.args in
    board-more a.board.now a.width c.loop-row.row (omega arith) c.loop-row.invariant c.write_row-to.ensures
