-- `name_lines::last_part` meets its contract: no byte from i on is a slash. Assumes nothing.
use mathlib.Core.Path.{◌≡◌}
use mathlib.Core.Bool.{false}
use lib.ListN.{drop}
use Rattle.name_lines.specs.NameLines.{holds}
use Rattle.name_lines.specs.Paths.{slash}
use Rattle.name_lines.proofs.last_part.Given as goal

abbrev pub invariant-loop-i : goal.invariant-loop-i
invariant-loop-i l = holds slash (drop l.i l.name) ≡ false
