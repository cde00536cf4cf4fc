-- Values as a person reads them. Definitions only.
use Rattle.std.specs.Prelude.{ℕ, ◌+◌, ◌/◌, ◌%◌, Bool, true, false, cond, List, [], ◌∷◌, ◌++◌, eqb}
use Rattle.text.specs.Decimals.{decimal_bytes}
use Rattle.lines.specs.Ascii.{ascii}

abbrev pub yes_no : Bool → List ℕ
yes_no true = ascii "yes"
yes_no false = ascii "no"

-- a point and the last three digits of a number
unfoldable pub thousandths : ℕ → List ℕ
thousandths n = 46 ∷ (48 + n / 100 % 10) ∷ (48 + n / 10 % 10) ∷ (48 + n % 10) ∷ []

-- milliseconds as seconds
unfoldable pub seconds : (ms : ℕ) → List ℕ
seconds ms = decimal_bytes (ms / 1000) ++ thousandths ms

-- the name of a level (01, Header: 3, 4 and 5 are the standard boards)
unfoldable pub level_name : ℕ → List ℕ
level_name level =
    cond (eqb level 3) (ascii "beginner")
    (cond (eqb level 4) (ascii "intermediate") (cond (eqb level 5) (ascii "expert") (ascii "custom")))
