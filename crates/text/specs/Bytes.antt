-- Tests of every byte of a text. Definitions only.
use Rattle.std.specs.Prelude.{ℕ, ◌≡◌, Bool, true, not, ◌&&◌, List, [], ◌∷◌, eqb, ltb}

-- every byte passes a test
abbrev pub all : (ℕ → Bool) → List ℕ → Bool
all p [] = true
all p (b ∷ l) = p b && all p l

abbrev pub non_zero : ℕ → Bool
non_zero b = not (eqb b 0)

-- no byte is 00
abbrev pub NoZero : List ℕ → Type 0
NoZero l = all non_zero l ≡ true

-- ASCII: 00 to 7F
abbrev pub is_ascii : ℕ → Bool
is_ascii b = ltb b 128
