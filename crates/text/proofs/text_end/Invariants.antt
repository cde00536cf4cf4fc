-- `text::text_end` meets its contract: no byte that was passed is 00, so the first 00 from `at` on is the
-- first from `i` on. Assumes nothing.
use mathlib.Core.Path.{◌≡◌}
use Rattle.text.specs.Ends.{text_end}
use Rattle.text.proofs.text_end.Given as goal

abbrev pub invariant-loop-i : goal.invariant-loop-i
invariant-loop-i l = text_end l.s l.at ≡ text_end l.s l.i
