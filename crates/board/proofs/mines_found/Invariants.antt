-- The sum is the mines of the bytes so far; the masked last byte adds those that are left.
use mathlib.Core.Path.{◌≡◌}
use Prim.Native.Nat.{◌+◌, ◌*◌, ◌≤◌}
use lib.ListN.{length, drop}
use Rattle.board.specs.Geometry.{mines_in}
use Rattle.board.specs.Bits.{bit_at}
use Rattle.board.proofs.mines_found.Given as goal

abbrev pub invariant-loop-byte : goal.invariant-loop-byte
invariant-loop-byte l =
    let i = length l.yielded in
    record {
      rest : l.byte-iterator.iter.rest.now ≡ drop i l.bits;
      left : l.byte-iterator.n + i ≡ l.whole;
      mines : l.sum ≡ mines_in (bit_at l.bits) (i * 8);
      few : l.sum ≤ i * 8;
    }
