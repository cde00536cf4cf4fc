-- The count under the mask is the count of the bits, by the computed test of proofs/Ones; r bits have at most
-- r ones.
use native.Mathlib.Omega.{arith}
use Rattle.board.specs.Bits.{bit_of}
use Rattle.board.proofs.Ones.{counted, mines_in-le}
use Rattle.board.proofs.ones_in.Goals as goal

pub returns : goal.returns
returns c =
    let a = c.args in
    let e = counted a.b a.r (omega arith) (omega arith) in
    (e, omega (arith, e, mines_in-le (bit_of a.b) a.r))
