-- `lines::escapes::char_len` meets its contract: no shorter start of the text is UTF-8. Assumes nothing.
use Prim.Native.Nat.{ℕ, ◌<◌}
use mathlib.Core.Path.{◌≡◌}
use mathlib.Core.Bool.{false}
use lib.ListN.{take}
use Rattle.text.specs.Utf8.{utf8}
use Rattle.lines.proofs.escapes.char_len.Given as goal

abbrev pub invariant-loop-n : goal.invariant-loop-n
invariant-loop-n l = (k : ℕ) → 0 < k → k < l.n → utf8 (take k l.rest) ≡ false
