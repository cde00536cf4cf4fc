-- By the bit.
use Rattle.board.specs.Geometry.{mark_of}
use Rattle.board.proofs.mark_at.Goals as goal

pub returns-then-bit_at : goal.returns-then-bit_at
unfolding mark_of
returns-then-bit_at c = rw (← c.bit_at.ensures, c.if-bit_at.true)

pub returns : goal.returns
unfolding mark_of
returns c = rw (← c.bit_at.ensures, c.if-bit_at.false)
