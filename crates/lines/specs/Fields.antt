-- The fields of a line that programs print (01, the program `evflist`: fields are parted by tabs, numbers are
-- decimal). Definitions only.
use Rattle.std.specs.Prelude.{ℕ, List, ◌∷◌}
use Rattle.text.specs.Decimals.{decimal_bytes}

-- the byte between two fields
abbrev pub tab : ℕ
tab = 9

-- the byte that ends a line
abbrev pub newline : ℕ
newline = 10

-- a number behind a tab
abbrev pub column : ℕ → List ℕ
column n = tab ∷ decimal_bytes n
