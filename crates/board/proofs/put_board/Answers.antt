use mathlib.Core.Path.{◌≡◌, ◌∙◌}
use Prim.Native.Nat.{◌*◌, min}
use native.Mathlib.Omega.{arith}
use lib.ListN.{length}
use Rattle.lists.proofs.Stores.{sets-each}
use Rattle.board.specs.Geometry.{mine_at}
use Rattle.board.specs.Bits.{packed_byte, packed_length, packed}
use Rattle.board.proofs.Packed.{byte_first}
use Rattle.board.proofs.put_board.Goals as goal

pub loop-j-preserved : goal.loop-j-preserved
loop-j-preserved c =
    let a = c.args in
    let n = a.height * a.width in
    let is : c.min.result ≡ min n (length a.board.now) = omega arith in
    c.put_byte.ensures
    ∙ rw (c.packed_byte.ensures, byte_first a.board.now n c.min.result is c.loop-j.j, c.loop-j.invariant)
    (sets-each a.out.now a.at c.loop-j.j (packed_byte (mine_at a.board.now) n))

pub returns : goal.returns
unfolding packed
returns c =
    let l = c.loop-j in
    let a = c.args in
    let e : l.j ≡ packed_length (a.height * a.width) = omega arith in
    rw (← e) l.invariant
