-- A board as text: a line for each row, a character for each cell. Definitions only.
use Rattle.std.specs.Prelude.{ℕ, zero, suc, ◌+◌, ◌*◌, List, [], ◌∷◌, ◌++◌, ℤ, pos, negsuc, get_or}
use Rattle.lists.specs.Lists.{each}
use Rattle.lines.specs.Fields.{newline}

-- `*` for a mine, `.` for a cell without mines around it, else how many there are
abbrev pub cell_char : ℤ → ℕ
cell_char (pos zero) = 46
cell_char (pos (suc n)) = 48 + suc n
cell_char (negsuc n) = 42

-- the character of cell k; past the end `.`
unfoldable pub char_at : List ℤ → ℕ → ℕ
char_at cells k = cell_char (get_or cells k (pos 0))

-- row r of cells that stand row by row, each row so wide
unfoldable pub row_text : List ℤ → (width r : ℕ) → List ℕ
row_text cells width r = each width (λ c. char_at cells (r * width + c)) ++ newline ∷ []

-- the first rows
unfoldable pub board_text : List ℤ → (width rows : ℕ) → List ℕ
board_text cells width zero = []
board_text cells width (suc r) = board_text cells width r ++ row_text cells width r
