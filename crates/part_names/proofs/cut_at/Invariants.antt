-- `part_names::cut_at` meets its contract: a cut above `k` would tear a character. Assumes nothing.
use mathlib.Core.Path.{◌≡◌}
use Rattle.part_names.specs.Parts.{cut_at, kept}
use Rattle.part_names.proofs.cut_at.Given as goal

abbrev pub invariant-loop-k : goal.invariant-loop-k
invariant-loop-k l = cut_at l.name l.k ≡ cut_at l.name kept
