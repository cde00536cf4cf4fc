-- After k turns the first k cells are counted.
use mathlib.Core.Path.{◌≡◌}
use Prim.Native.Nat.{◌≤◌}
use Rattle.board.specs.Geometry.{mine_at}
use Rattle.openings.specs.Turns.{left_over}
use Rattle.openings.proofs.Tally.{tally}
use Rattle.openings.proofs.count_left.Given as goal

abbrev pub invariant-loop-k : goal.invariant-loop-k
invariant-loop-k l = (l.left ≡ tally (left_over (mine_at l.board) l.cells) l.k) × (l.left ≤ l.k)
