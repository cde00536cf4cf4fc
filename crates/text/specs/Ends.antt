-- Where a zero-ended text ends (01, "Bytes, text, numbers"). Definitions only.
use Rattle.std.specs.Prelude.{ℕ, suc, ◌+◌, cond, List, [], ◌∷◌, drop, eqb, Option, Some, None}
use Rattle.std.proofs.Math.Option.{Option as Maybe, none, some, map}

-- how many bytes stand before the first 00, if there is one
unfoldable pub up_to00 : List ℕ → Maybe ℕ
up_to00 [] = none
up_to00 (b ∷ l) = cond (eqb b 0) (some 0) (map suc (up_to00 l))

abbrev pub end_after : ℕ → Maybe ℕ → Option ℕ
end_after at none = None
end_after at (some n) = Some (at + n)

-- the place of the first 00 of s at or after `at`
unfoldable pub text_end : List ℕ → ℕ → Option ℕ
text_end s at = end_after at (up_to00 (drop at s))
