-- What `evf badge` prints for M3 of 01. Definitions only.
use Rattle.std.specs.Prelude.{ℕ, List, [], ◌∷◌, ◌++◌}
use Rattle.lines.specs.Ascii.{ascii}
use Rattle.lines.specs.Fields.{tab, newline}

-- its two events are lc and lr, and its header claims the badge
abbrev pub m3_badged : List ℕ
m3_badged =
    ascii "badge" ++ tab ∷ ascii "older rule" ++ tab ∷ ascii "earned" ++ tab ∷ ascii "claimed"
    ++ tab ∷ ascii "agrees" ++ newline ∷ []
