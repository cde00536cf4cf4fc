-- What `evf show` prints of a file: a line for each value of its header, then its board. Definitions only.
use Rattle.std.specs.Prelude.{ℕ, List, [], ◌∷◌, ◌++◌, ℤ, length}
use Rattle.game.specs.declared.Header.{Header}
use Rattle.evf_video.specs.Reading.{Reading, game, none, reading_of, cells_at}
use Rattle.lines.specs.Fields.{newline}
use Rattle.shown_header.specs.Lines.{header_shown}
use Rattle.board_text.specs.Rows.{board_text}

-- a game: its header, an empty line, its board
unfoldable pub game_shown : List ℕ → Header → List ℤ → (events : ℕ) → List ℕ
game_shown file h cells events =
    header_shown file h events ++ (newline ∷ board_text cells h.width h.height)

-- a file's reading; nothing of one that is refused
abbrev pub reading_shown : List ℕ → Reading → List ℕ
reading_shown file (game h place es) = game_shown file h (cells_at file h place) (length es)
reading_shown file (none n) = []

-- a file
unfoldable pub shown_of : List ℕ → List ℕ
shown_of file = reading_shown file (reading_of file)
