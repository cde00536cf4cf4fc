-- One character of UTF-8 at a time: what the steps of the check answer, in terms of the grammar's rules.
-- Definitions only.
use Rattle.std.specs.Prelude.{ℕ, zero, suc, ◌<◌, ◌≡◌, List, [], ◌∷◌, Bool, true, false, cond, ◌&&◌, length, get_or, Option, Some, None}
use Rattle.text.specs.Utf8.{Range, within, Production, ◌then◌, utf8_1, utf8_2, utf8_3, utf8_4}
use Rattle.text.specs.Classes.{class_of}

-- the list begins with a byte, and this is its class
pub record FirstIs (s : List ℕ) (class : ℕ) : Type 0 where
  pub inside : 0 < length s
  pub byte : get_or s 0 0 < 256
  pub told : class ≡ class_of (get_or s 0 0)

-- the list begins with a byte that passes a test
abbrev pub starts : (ℕ → Bool) → List ℕ → Bool
starts p [] = false
starts p (b ∷ l) = p b

-- the list begins with a byte in each range
abbrev pub begins : List Range → List ℕ → Bool
begins [] l = true
begins (r ∷ rs) [] = false
begins (r ∷ rs) (b ∷ l) = within r b && begins rs l

-- how many bytes the character has that a rule spells at the front of a list, by the rule's first line that
-- does; 0 for none
unfoldable pub spelled_by : List Production → List ℕ → ℕ
spelled_by [] l = 0
spelled_by ((r then rs) ∷ ps) l = cond (begins (r ∷ rs) l) (suc (length rs)) (spelled_by ps l)

-- a length, where 0 is none
abbrev pub some_len : ℕ → Option ℕ
some_len zero = None
some_len (suc n) = Some (suc n)

-- the first of two that is not 0
abbrev pub or_else : ℕ → ℕ → ℕ
or_else zero m = m
or_else (suc n) m = suc n

-- how many bytes the character has with which the list begins, by the first of the four rules that spells
-- one; 0 for none
unfoldable pub char_len : List ℕ → ℕ
char_len l =
    or_else (spelled_by utf8_1 l) (or_else (spelled_by utf8_2 l)
    (or_else (spelled_by utf8_3 l) (spelled_by utf8_4 l)))
