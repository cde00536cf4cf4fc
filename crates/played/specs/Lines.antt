-- The lines that `evf play` prints of a game. Fields are parted by tabs. Definitions only.
use Rattle.std.specs.Prelude.{ℕ, cond, List, [], ◌∷◌, ◌++◌}
use Rattle.text.specs.Decimals.{decimal_bytes}
use Rattle.lines.specs.Ascii.{ascii}
use Rattle.lines.specs.Fields.{tab, newline}
use Rattle.times.specs.Times.{halves_away, s_to_ms}
use Rattle.game.specs.declared.MouseKind.{MouseKind}
use Rattle.game.specs.declared.Event.{Event}
use Rattle.game.specs.declared.Event.TheVariants.{Mouse, State}
use Rattle.names.specs.Names.{kind_name}
use Rattle.event_lines.specs.Lines.{letters}
use Rattle.words.specs.Words.{refused_line}
use Rattle.moves.specs.declared.Played.{Played}
use Rattle.moves.specs.declared.Played.TheVariants.{Undecided, Won, Lost, Refused}
use Rattle.played.specs.declared.Move.{Move}

-- an event that changed the board: its place among all of them from 0, its kind, its time, the row and the
-- column that it fell on, from 0, and how many cells it uncovered
unfoldable pub move_line : (n : ℕ) → MouseKind → (ms row column took : ℕ) → List ℕ
move_line n kind ms row column took =
    ascii "event " ++ decimal_bytes n
    ++ tab ∷ letters (kind_name kind)
    ++ tab ∷ decimal_bytes ms ++ ascii " ms"
    ++ tab ∷ ascii "row " ++ decimal_bytes row
    ++ tab ∷ ascii "column " ++ decimal_bytes column
    ++ tab ∷ decimal_bytes took ++ ascii " uncovered"
    ++ newline ∷ []

-- the line of event n where it changed the board, nothing of any other; its milliseconds are by rule 1
abbrev pub change_line : (n : ℕ) → Move → Event → List ℕ
change_line n m (Mouse t kind x y) =
    cond m.changed (move_line n kind (s_to_ms halves_away t) m.row m.column m.took) []
change_line n m (State t s) = []

-- a word on how a game stands, and how many events were played
unfoldable pub played_line : (word : List ℕ) → (events : ℕ) → List ℕ
played_line word events =
    ascii "played" ++ tab ∷ word ++ tab ∷ decimal_bytes events ++ ascii " events" ++ newline ∷ []

-- the last line of a game, or its only one where it is refused
abbrev pub verdict_line : Played → (events : ℕ) → List ℕ
verdict_line Undecided events = played_line (ascii "undecided") events
verdict_line Won events = played_line (ascii "won") events
verdict_line Lost events = played_line (ascii "lost") events
verdict_line (Refused n) events = refused_line n
