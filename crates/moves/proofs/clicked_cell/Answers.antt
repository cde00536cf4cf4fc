-- Only a game that goes on has one. Assumes nothing.
use Rattle.moves.specs.Moves.{clicked_cell}
use Rattle.moves.proofs.clicked_cell.Goals as goal

pub returns-then-goes_on : goal.returns-then-goes_on
unfolding clicked_cell
returns-then-goes_on c = rw (← c.goes_on.ensures, c.if-goes_on.true) c.under.ensures

pub returns : goal.returns
unfolding clicked_cell
returns c = rw (← c.goes_on.ensures, c.if-goes_on.false) c.cells_of.ensures.0
