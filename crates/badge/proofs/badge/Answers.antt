-- By what the callees say. Assumes nothing.
use Rattle.badge.proofs.Through.{awards-through}
use Rattle.badge.proofs.badge.Goals as goal

pub returns : goal.returns
returns c =
    awards-through c.args.header c.args.board.now c.args.row.now c.args.cells.now c.args.wish
    c.no_buttons.ensures c.press_row-buttons.ensures c.begin-from.ensures.0 c.begin-from.ensures.1
    c.judge_row-last.ensures.0 c.judge_row-last.ensures.1 c.answer.ensures
