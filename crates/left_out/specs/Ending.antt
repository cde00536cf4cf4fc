-- Where the reading of a file ends (01, Events), by the fields that `evf_video`'s reading reads last.
-- Definitions only.
use Rattle.std.specs.Prelude.{ℕ, List}
use Rattle.text.specs.declared.Place.{Place}
use Rattle.byte_reader.specs.Reading.{Got, ok, no}
use Rattle.evf_header.specs.Opening.{Opened, opening}
use Rattle.evf_events.specs.Events.{Events, read, refused, events_from}
use Rattle.evf_events.specs.Start.{first_cursor}
use Rattle.evf_video.specs.Reading.{checksum}

-- behind the checksum, which takes no byte where none follows the events
abbrev pub behind_sum : Got Place → ℕ
behind_sum (ok p to) = to
behind_sum (no n) = 0

abbrev pub behind_all : List ℕ → Opened → Events → ℕ
behind_all file o (read es at follows) = behind_sum (checksum o.header.version follows file at)
behind_all file o (refused n) = 0

abbrev pub end_from : List ℕ → Got Opened → ℕ
end_from file (ok o at) = behind_all file o (events_from file (first_cursor o.header.version at))
end_from file (no n) = 0

-- the place behind the last byte that is read; 0 where the file is refused
unfoldable pub end_of : List ℕ → ℕ
end_of file = end_from file (opening file 0)
