-- `text::digits` meets its contract: `v` and then the digits that are left spell what the text spells. Assumes
-- nothing.
use Prim.Native.Nat.{◌^◌, ◌<◌}
use mathlib.Core.Path.{◌≡◌}
use lib.ListN.{drop}
use Rattle.text.specs.Decimals.{in_digits}
use Rattle.text.proofs.Spelled.{after}
use Rattle.text.proofs.digits.Given as goal

abbrev pub invariant-loop-d : goal.invariant-loop-d
invariant-loop-d l = (l.v < 2 ^ 64) × (in_digits l.s ≡ after (drop l.d-index l.s) l.v)
