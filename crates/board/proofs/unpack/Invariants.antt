-- After k turns the first k cells are the marks of the first k bits.
use mathlib.Core.Path.{◌≡◌}
use lib.Seq.{sets}
use Rattle.lists.specs.Lists.{each}
use Rattle.board.specs.Geometry.{mark_of}
use Rattle.board.specs.Bits.{bit_at}
use Rattle.board.proofs.unpack.Given as goal

abbrev pub invariant-loop-k : goal.invariant-loop-k
invariant-loop-k l = l.board ≡ sets l.initial.board 0 (each l.k (mark_of (bit_at l.bits)))
