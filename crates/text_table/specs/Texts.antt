-- Texts that stand one behind the other in a list of bytes, each with a 00 behind it. Definitions only.
use Rattle.std.specs.Prelude.{ℕ, zero, suc, List, [], ◌∷◌, get_or}

-- one byte more in front of the first text
abbrev pub onto : ℕ → List (List ℕ) → List (List ℕ)
onto b [] = (b ∷ []) ∷ []
onto b (text ∷ others) = (b ∷ text) ∷ others

-- the texts, in their order; the last may lack its 00
unfoldable pub texts : List ℕ → List (List ℕ)
texts [] = []
texts (zero ∷ list) = [] ∷ texts list
texts (suc b ∷ list) = onto (suc b) (texts list)

-- text n, counted from 0; empty where there are no more than n
unfoldable pub text_at : List ℕ → ℕ → List ℕ
text_at list n = get_or (texts list) n []
