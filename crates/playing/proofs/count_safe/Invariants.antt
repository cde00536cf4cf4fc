-- After k turns the safe ones of the first k cells are counted. Assumes nothing.
use Rattle.std.proofs.Common.{◌≡◌, ◌≤◌}
use Rattle.lists.specs.Lists.{each}
use Rattle.flood.specs.Spread.{size}
use Rattle.playing.specs.Beginning.{safe}
use Rattle.playing.proofs.count_safe.Given as goal

abbrev pub invariant-loop-k : goal.invariant-loop-k
invariant-loop-k l = (l.left ≡ size (each l.k (safe l.board))) × (l.left ≤ l.k)
