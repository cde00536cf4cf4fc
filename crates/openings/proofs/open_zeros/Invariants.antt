-- After k turns the first k cells are walked.
use mathlib.Core.Path.{◌≡◌}
use Prim.Native.Nat.{◌*◌}
use Rattle.board.specs.Geometry.{mine_at}
use Rattle.openings.proofs.Walk.{Walked}
use Rattle.openings.proofs.open_zeros.Given as goal

abbrev pub invariant-loop-k : goal.invariant-loop-k
invariant-loop-k l =
    (l.n ≡ l.height * l.width) × Walked (mine_at l.board) l.height l.width l.initial.work l.work l.k l.openings
