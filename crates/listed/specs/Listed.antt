-- WHAT THE PROGRAM `evflist` PRINTS, all of it, for the bytes on its standard input (01, the program
-- `evflist`). Definitions only.
use Rattle.std.specs.Prelude.{ℕ, ◌≡◌, cond, List, [], ◌∷◌, ◌++◌, leb, length, take, drop}
use Rattle.io.specs.Counts.{IsPrefixLen}
use Rattle.game.specs.declared.Event.{Event}
use Rattle.game.specs.declared.Header.{Header}
use Rattle.lines.specs.Ascii.{ascii}
use Rattle.lines.specs.Fields.{column, newline}
use Rattle.event_lines.specs.Lines.{event_line}
use Rattle.evf_video.specs.Reading.{Reading, game, none}
use Rattle.evf_video.specs.Parsed.{parse_of}

-- the most bytes of an input, cells of a board and events of a game that are listed
abbrev pub most_bytes : ℕ
most_bytes = 65536

abbrev pub most_cells : ℕ
most_cells = 65025

abbrev pub most_events : ℕ
most_events = 2000

-- a line for each event, in their order
abbrev pub event_lines : List Event → List ℕ
event_lines [] = []
event_lines (e ∷ es) = event_line e ++ event_lines es

-- the line of a game: `game`, version, height, width, mines, time, the number of its events
unfoldable pub game_line : Header → (events : ℕ) → List ℕ
game_line h events =
    ascii "game" ++ column h.version ++ column h.height ++ column h.width ++ column h.mine_num
    ++ column h.rtime_ms.0 ++ column events ++ newline ∷ []

-- the line of a refusal: `refused` and its number
unfoldable pub refusal_line : (n : ℕ) → List ℕ
refusal_line n = ascii "refused" ++ column n ++ newline ∷ []

-- the lines of a reading
abbrev pub lines_of : Reading → List ℕ
lines_of (game h board es) = game_line h (length es) ++ event_lines es
lines_of (none n) = refusal_line n

-- the line of an input of too many bytes
unfoldable pub long_line : List ℕ
long_line = ascii "long" ++ newline ∷ []

-- the whole output for an input
unfoldable pub listed_of : List ℕ → List ℕ
listed_of file =
    cond (leb (length file) most_bytes) (lines_of (parse_of file most_cells most_events)) long_line

-- The first r bytes of a buffer became the whole output, and the rest is as it was. `counts` is what lending
-- these bytes asks for.
pub record Lists (file out out' : List ℕ) (r : ℕ) : Type 0 where
  pub is : take r out' ≡ listed_of file
  pub rest : drop r out' ≡ drop r out
  pub counts : IsPrefixLen r out'
