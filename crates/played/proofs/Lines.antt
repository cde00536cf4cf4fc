-- The lines as their writers put them together. Assumes nothing.
--     move_line_lem, played_line_lem   the fields of a line in a row
use Prim.Native.Nat.{ℕ}
use mathlib.Core.Path.{◌≡◌}
use mathlib.Core.List.{List, [], ◌∷◌, ◌++◌, append_assoc}
use Rattle.text.specs.Decimals.{decimal_bytes}
use Rattle.lines.specs.Ascii.{ascii}
use Rattle.game.specs.declared.MouseKind.{MouseKind}
use Rattle.names.specs.Names.{kind_name}
use Rattle.event_lines.specs.Lines.{letters}
use Rattle.played.specs.Lines.{move_line, played_line}

pub move_line_lem : (n : ℕ) (kind : MouseKind) (ms row column took : ℕ)
    → ascii "event "
    ++ ((decimal_bytes n ++ 9 ∷ [])
    ++ (letters (kind_name kind)
    ++ ((9 ∷ [])
    ++ ((decimal_bytes ms ++ (ascii " ms" ++ 9 ∷ ascii "row "))
    ++ ((decimal_bytes row ++ 9 ∷ ascii "column ")
    ++ ((decimal_bytes column ++ 9 ∷ []) ++ (decimal_bytes took ++ (ascii " uncovered" ++ 10 ∷ []))))))))
    ≡ move_line n kind ms row column took
unfolding move_line
move_line_lem n kind ms row column took = simp append_assoc

pub played_line_lem : (word : List ℕ) (events : ℕ)
    → (ascii "played" ++ 9 ∷ [])
    ++ (word ++ ((9 ∷ []) ++ (decimal_bytes events ++ (ascii " events" ++ 10 ∷ []))))
    ≡ played_line word events
unfolding played_line
played_line_lem word events = simp append_assoc
