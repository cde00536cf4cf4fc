-- What `evf recount` prints for M3 of 01. Definitions only.
use Rattle.std.specs.Prelude.{ℕ, List, [], ◌∷◌, ◌++◌}
use Rattle.lines.specs.Ascii.{ascii}
use Rattle.lines.specs.Fields.{tab, newline}

-- its board is a mine and a cell beside it, which is no zero
abbrev pub m3_recounted : List ℕ
m3_recounted =
    ascii "recounted" ++ tab ∷ ascii "3BV 1 in the header" ++ tab ∷ ascii "3BV 1 recounted"
    ++ tab ∷ ascii "0 openings" ++ tab ∷ ascii "same" ++ newline ∷ []
