-- A country's two-letter form, what the version 4 writer puts for it (01, Version 4 writer and upgrade).
-- Definitions only.
use Rattle.std.specs.Prelude.{ℕ, ◌-◌, Bool, cond, ◌&&◌, ◌||◌, List, [], ◌∷◌, leb}

-- an ASCII letter: A to Z, a to z
unfoldable pub is_letter : ℕ → Bool
is_letter c = (leb 65 c && leb c 90) || (leb 97 c && leb c 122)

-- a letter in upper case
unfoldable pub upper : ℕ → ℕ
upper c = cond (leb 97 c) (c - 32) c

-- `XX`
abbrev pub unknown : List ℕ
unknown = 88 ∷ 88 ∷ []

-- a text that is two ASCII letters and no more: these in upper case; any other text: `XX`
unfoldable pub two_letters : List ℕ → List ℕ
unfolding is_letter upper
two_letters [] = unknown
two_letters (a ∷ []) = unknown
two_letters (a ∷ b ∷ []) = cond (is_letter a && is_letter b) (upper a ∷ upper b ∷ []) unknown
two_letters (a ∷ b ∷ c ∷ rest) = unknown
