-- By what the callees say. Assumes nothing.
use Rattle.playing.proofs.Through.{plays-through}
use Rattle.playing.proofs.play.Goals as goal

pub returns : goal.returns
returns c =
    plays-through c.args.sizes c.args.pixels c.args.board.now c.args.row.now c.args.cells.now
    c.no_buttons.ensures c.press_row-buttons.ensures c.begin-from.ensures.0 c.begin-from.ensures.1
    c.play_row-last.ensures.0 c.play_row-last.ensures.1 c.answer.ensures
