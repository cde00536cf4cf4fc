-- A cell and the cells beside it.
use borrow.Author.Rules.{rules}
use Rattle.board.specs.Geometry.{near}
use Rattle.board.proofs.mines_near.Goals as goal

pub returns : goal.returns
unfolding near
returns c = search rules
