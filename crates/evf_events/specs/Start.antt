-- Where a file's events start (01, Events and Header; Refusals 1 to 7). Definitions only.
use Rattle.std.specs.Prelude.{ℕ, true, List}
use Rattle.byte_reader.specs.Reading.{Got, ok, no}
use Rattle.evf_header.specs.Opening.{Opened, opening}
use Rattle.evf_events.specs.declared.EventCursor.{EventCursor}
use Rattle.evf_events.specs.declared.Start.{Start}
use Rattle.evf_events.specs.declared.Start.TheVariants.{At, Refused}

-- the number of the refusal, 0 for none
abbrev pub start_number : Start → ℕ
start_number (At c) = 0
start_number (Refused n) = n

-- the cursor at a place where the first record stands
abbrev pub first_cursor : (version at : ℕ) → EventCursor
first_cursor version at =
    record { version = version; at = at; first = true; ms = record { 0 = 0 }; x = 0; y = 0 }

abbrev pub behind_opening : Got Opened → Start
behind_opening (ok o at) = At (first_cursor o.header.version at)
behind_opening (no n) = Refused n

-- the cursor behind what stands before the events, or its refusal
unfoldable pub open_of : List ℕ → Start
open_of file = behind_opening (opening file 0)
