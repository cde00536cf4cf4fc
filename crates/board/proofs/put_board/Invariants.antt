-- After j turns the first j packed bytes stand in the buffer, as far as it goes.
use mathlib.Core.Path.{◌≡◌}
use Prim.Native.Nat.{◌*◌}
use lib.Seq.{sets}
use Rattle.lists.specs.Lists.{each}
use Rattle.board.specs.Geometry.{mine_at}
use Rattle.board.specs.Bits.{packed_byte}
use Rattle.board.proofs.put_board.Given as goal

abbrev pub invariant-loop-j : goal.invariant-loop-j
invariant-loop-j l =
    l.out ≡ sets l.initial.out l.at (each l.j (packed_byte (mine_at l.board) (l.height * l.width)))
