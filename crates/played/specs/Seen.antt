-- A board as a player sees it, as text: a line for each row, a character for each cell. Definitions only.
use Rattle.std.specs.Prelude.{ℕ, zero, suc, ◌+◌, ◌*◌, cond, List, [], ◌∷◌, ◌++◌, eqb, ℤ, get_or}
use Rattle.lists.specs.Lists.{each}
use Rattle.lines.specs.Fields.{newline}
use Rattle.board_text.specs.Rows.{char_at}

-- `#` where an entry says covered and `F` where it says flagged; else what the board has there: `*` for a
-- mine, `.` for a cell without mines around it, or how many there are
unfoldable pub seen_at : List ℤ → List ℕ → ℕ → ℕ
seen_at board cells k =
    cond (eqb (get_or cells k 0) 0) 35 (cond (eqb (get_or cells k 0) 1) 70 (char_at board k))

-- row r of cells that stand row by row, each row so wide
unfoldable pub seen_row : List ℤ → List ℕ → (width r : ℕ) → List ℕ
seen_row board cells width r = each width (λ c. seen_at board cells (r * width + c)) ++ newline ∷ []

-- the first rows
unfoldable pub seen_text : List ℤ → List ℕ → (width rows : ℕ) → List ℕ
seen_text board cells width zero = []
seen_text board cells width (suc r) = seen_text board cells width r ++ seen_row board cells width r
