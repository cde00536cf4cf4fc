-- `name_lines::line_len` meets its contract: no byte that was passed is a newline. Assumes nothing.
use Prim.Native.Nat.{◌+◌}
use mathlib.Core.Path.{◌≡◌}
use lib.ListN.{length, drop}
use Rattle.name_lines.specs.Steps.{first_line}
use Rattle.name_lines.proofs.line_len.Given as goal

abbrev pub invariant-loop-i : goal.invariant-loop-i
invariant-loop-i l = length (first_line l.rest) ≡ l.i + length (first_line (drop l.i l.rest))
