-- What a file reads as, before it is put anywhere (01, Header, Events; Refusals 1 to 10). Definitions only.
use Rattle.std.specs.Prelude.{ℕ, Bool, cond, List, eqb, ℤ, set}
use Rattle.text.specs.declared.Place.{Place}
use Rattle.text.specs.Places.{absent, bytes_at}
use Rattle.board.specs.Bits.{bit_at}
use Rattle.board.specs.Geometry.{cells}
use Rattle.game.specs.declared.Header.{Header}
use Rattle.game.specs.declared.Event.{Event}
use Rattle.game.specs.Header.{checksum_slot}
use Rattle.game.specs.Limits.{checksum_length}
use Rattle.game.specs.Same.{Game}
use Rattle.byte_reader.specs.Reading.{Got, ok, no, Reader, pure}
use Rattle.byte_reader.specs.Fields.{bytes, counted_bytes}
use Rattle.evf_header.specs.Opening.{Opened, opening}
use Rattle.evf_events.specs.Events.{Events, read, refused, events_from}
use Rattle.evf_events.specs.Start.{first_cursor}
use Rattle.evf_video.specs.declared.Outcome.{Outcome}
use Rattle.evf_video.specs.declared.Outcome.TheVariants.{Read, Refused}

-- The checksum behind the events: counted in version 4; 32 bytes in the others, if one follows.
unfoldable pub checksum : (version : ℕ) → (follows : Bool) → Reader Place
checksum version follows =
    cond (eqb version 4) counted_bytes (cond follows (bytes checksum_length) (pure absent))

-- the header with its checksum
abbrev pub with_checksum : Header → Place → Header
with_checksum h p = record {
  version = h.version;
  is_completed = h.is_completed;
  is_official = h.is_official;
  is_fair = h.is_fair;
  nf = h.nf;
  translated = h.translated;
  use_question = h.use_question;
  use_cursor_pos_lim = h.use_cursor_pos_lim;
  use_auto_replay = h.use_auto_replay;
  height = h.height;
  width = h.width;
  mine_num = h.mine_num;
  cell_pixel_size = h.cell_pixel_size;
  mode = h.mode;
  bbbv = h.bbbv;
  rtime_ms = h.rtime_ms;
  start_time = h.start_time;
  end_time = h.end_time;
  level = h.level;
  mines_found = h.mines_found;
  texts = set h.texts checksum_slot p;
  metrics = h.metrics;
  metrics_count = h.metrics_count;
}

-- a game with the place of its packed board and its events, or the number of the refusal
pub data Reading : Type 0 where
  game : Header → (board : Place) → List Event → Reading
  none : ℕ → Reading

abbrev pub behind_events : Opened → List Event → Got Place → Reading
behind_events o es (ok p to) = game (with_checksum o.header p) o.board es
behind_events o es (no n) = none n

abbrev pub behind_header : List ℕ → Opened → Events → Reading
behind_header file o (read es at follows) = behind_events o es (checksum o.header.version follows file at)
behind_header file o (refused n) = none n

abbrev pub from_start : List ℕ → Got Opened → Reading
from_start file (ok o at) = behind_header file o (events_from file (first_cursor o.header.version at))
from_start file (no n) = none n

-- the header, the events, the checksum
unfoldable pub reading_of : List ℕ → Reading
reading_of file = from_start file (opening file 0)

-- what a caller is told of it, and 01's number for that, 0 where the file was read
abbrev pub outcome_of : Reading → Outcome
outcome_of (game h board es) = Read
outcome_of (none n) = Refused n

abbrev pub outcome_number : Outcome → ℕ
outcome_number Read = 0
outcome_number (Refused n) = n

abbrev pub number_of : Reading → ℕ
number_of r = outcome_number (outcome_of r)

-- the cells of a board whose packed bytes stand at a place
abbrev pub cells_at : List ℕ → Header → Place → List ℤ
cells_at file h board = cells (bit_at (bytes_at file board)) h.height h.width

-- the whole game, its texts in the file
abbrev pub game_read : List ℕ → Header → (board : Place) → List Event → Game
game_read file h board es = record { header = h; bytes = file; cells = cells_at file h board; events = es }
