-- The shift is the definition's division by a power of two.
use Rattle.board.specs.Bits.{bit_at}
use Rattle.board.proofs.bit_at.Goals as goal

pub returns : goal.returns
unfolding bit_at
returns c = rw c.byte_at.ensures
