-- A file read into a lent board and a lent row (01, Refusals 11 and 12, and what a refused call leaves).
-- Definitions only.
use Rattle.std.specs.Prelude.{ℕ, ◌*◌, ◌≡◌, cond, List, leb, ℤ, length}
use Rattle.std.proofs.lemmas.List.Edits.{sets}
use Rattle.game.specs.declared.Event.{Event}
use Rattle.game.specs.Header.{blank}
use Rattle.game.specs.Refusals.{board_buffer_short, row_short}
use Rattle.evf_video.specs.declared.Parsed.{Parsed}
use Rattle.evf_video.specs.declared.Outcome.TheVariants.{Read, Refused}
use Rattle.evf_video.specs.Reading.{Reading, game, none, reading_of, outcome_number, number_of, cells_at}

-- A game that is read needs height × width cells, told first, and an entry for each event.
abbrev pub into_buffers : Reading → (cells entries : ℕ) → Reading
into_buffers (game h board es) cells entries =
    cond (leb (h.height * h.width) cells) (cond (leb (length es) entries) (game h board es) (none row_short))
    (none board_buffer_short)
into_buffers (none n) cells entries = none n

-- the reading of a file with its buffers' lengths
unfoldable pub parse_of : List ℕ → (cells entries : ℕ) → Reading
parse_of file cells entries = into_buffers (reading_of file) cells entries

-- the answer: a refusal has its number, the blank header and no events
abbrev pub answer_of : Reading → Parsed
answer_of (game h board es) = record { outcome = Read; header = h; events = length es }
answer_of (none n) = record { outcome = Refused n; header = blank; events = 0 }

-- the lent board then: its first cells, and the rest as it was; all as it was where the reading is refused
abbrev pub board_then : List ℕ → Reading → List ℤ → List ℤ
board_then file (game h place es) board = sets board 0 (cells_at file h place)
board_then file (none n) board = board

-- the lent row then: its first entries, and the rest as it was; all as it was where the reading is refused
abbrev pub row_then : Reading → List Event → List Event
row_then (game h place es) row = sets row 0 es
row_then (none n) row = row

-- what `parse` promises of its answer and the answer's number, of each cell and of each entry
pub record Parses (file : List ℕ) (board : List ℤ) (row : List Event) (answer : Parsed) (board' : List ℤ)
    (row' : List Event) : Type 0 where
  pub answer_is : answer ≡ answer_of (parse_of file (length board) (length row))
  pub number_is : outcome_number answer.outcome ≡ number_of (parse_of file (length board) (length row))
  pub board_is : board' ≡ board_then file (parse_of file (length board) (length row)) board
  pub row_is : row' ≡ row_then (parse_of file (length board) (length row)) row
