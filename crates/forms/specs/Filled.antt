-- A form filled in: the bytes of a form stand for themselves, but for marks, each of which stands for the
-- next of a list of values. Definitions only.
use Rattle.std.specs.Prelude.{ℕ, cond, List, [], ◌∷◌, ◌++◌, eqb, get_or, drop}
use Rattle.text.specs.Decimals.{decimal_bytes}
use Rattle.game.specs.declared.Header.{Header}
use Rattle.game.specs.Header.{text_at}
use Rattle.lines.specs.Escapes.{shown_text}
use Rattle.forms.specs.Values.{yes_no, seconds, level_name}

-- what a byte of a form stands for
pub data Mark : Type 0 where
  number : Mark  -- #, a number
  text : Mark  -- $, the text of a slot
  flag : Mark  -- ?, yes for 1, no for any other number
  time : Mark  -- @, milliseconds
  level : Mark  -- %, a level
  itself : Mark

abbrev pub mark_of : ℕ → Mark
mark_of b =
    cond (eqb b 35) number
    (cond (eqb b 36) text (cond (eqb b 63) flag (cond (eqb b 64) time (cond (eqb b 37) level itself))))

-- a byte of a form and the next value; texts are those of a header
abbrev pub value_by : Header → List ℕ → Mark → (b n : ℕ) → List ℕ
value_by h file number b n = decimal_bytes n
value_by h file text b n = shown_text (text_at h file n)
value_by h file flag b n = yes_no (eqb n 1)
value_by h file time b n = seconds n
value_by h file level b n = level_name n
value_by h file itself b n = b ∷ []

unfoldable pub piece : Header → List ℕ → (b n : ℕ) → List ℕ
piece h file b n = value_by h file (mark_of b) b n

-- how many values a byte of a form takes
abbrev pub taken_by : Mark → ℕ
taken_by itself = 0
taken_by number = 1
taken_by text = 1
taken_by flag = 1
taken_by time = 1
taken_by level = 1

unfoldable pub taken : ℕ → ℕ
taken b = taken_by (mark_of b)

-- the whole form; values that are missing count as 0
unfoldable pub filled : Header → List ℕ → (form values : List ℕ) → List ℕ
filled h file [] values = []
filled h file (b ∷ form) values =
    piece h file b (get_or values 0 0) ++ filled h file form (drop (taken b) values)
