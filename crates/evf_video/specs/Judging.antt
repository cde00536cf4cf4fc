-- A file judged before any buffer is touched: what `judge` answers (01, Refusals 1 to 10), by its reading and
-- the cursor at its first record. Definitions only.
use Rattle.std.specs.Prelude.{ℕ, List, length}
use Rattle.text.specs.Places.{absent}
use Rattle.game.specs.Header.{blank}
use Rattle.byte_reader.specs.Reading.{Got, ok, no}
use Rattle.evf_header.specs.Opening.{Opened, opening}
use Rattle.evf_events.specs.declared.EventCursor.{EventCursor}
use Rattle.evf_events.specs.Start.{first_cursor}
use Rattle.evf_video.specs.declared.Judged.{Judged}
use Rattle.evf_video.specs.declared.Outcome.TheVariants.{Read, Refused}
use Rattle.evf_video.specs.Reading.{Reading, game, none, reading_of}

-- the answer for a reading and the cursor c at its first record; a refused reading has a cursor that stands
-- nowhere
abbrev pub judged : EventCursor → Reading → Judged
judged c (game h board es) =
    record { outcome = Read; header = h; board = board; events = length es; cursor = c }
judged c (none n) =
    record { outcome = Refused n; header = blank; board = absent; events = 0; cursor = first_cursor 0 0 }

-- the cursor behind what stands before the events; one that stands nowhere where that is refused
abbrev pub cursor_from : Got Opened → EventCursor
cursor_from (ok o at) = first_cursor o.header.version at
cursor_from (no n) = first_cursor 0 0

-- the cursor at a file's first record
unfoldable pub start_of : List ℕ → EventCursor
start_of file = cursor_from (opening file 0)

-- what `judge` answers: a refusal has its number, the blank header, no board and no events
unfoldable pub judged_of : List ℕ → Judged
judged_of file = judged (start_of file) (reading_of file)
