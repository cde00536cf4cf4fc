-- All strings of up to three bytes, and how many of them are UTF-8. Definitions only.
use Rattle.std.specs.Prelude.{ℕ, ◌-◌, ◌/◌, ◌%◌, cond, List, [], ◌∷◌, ltb, drop}
use Rattle.lists.specs.Lists.{each, count}
use Rattle.text.specs.Utf8.{utf8}

-- a length; 3 if it is larger
abbrev pub shortened : ℕ → ℕ
shortened n = cond (ltb 3 n) 3 n

-- string k of n bytes: the last n of the three of a number, the high one first
abbrev pub string : ℕ → ℕ → List ℕ
string n k = drop (3 - n) (k / 65536 % 256 ∷ k / 256 % 256 ∷ k % 256 ∷ [])

-- how many of the first so many strings of n bytes are UTF-8
unfoldable pub passing : ℕ → ℕ → ℕ
passing n strings = count (λ k. utf8 (string n k)) (each strings (λ k. k))
