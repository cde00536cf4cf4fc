-- The events of a file, one at a time and all of them (01, Events; Refusals 1, 2, 8, 9 and 10). Definitions
-- only.
use Rattle.std.specs.Prelude.{ℕ, zero, suc, ◌+◌, ◌-◌, ◌%◌, Bool, true, false, cond, List, [], ◌∷◌, length, nat_le, nat_lt}
use Rattle.times.specs.Times.{largest_ms, seconds_of}
use Rattle.game.specs.declared.Event.{Event}
use Rattle.game.specs.declared.Event.TheVariants.{Mouse, State}
use Rattle.game.specs.declared.MouseKind.{MouseKind}
use Rattle.game.specs.Refusals.{file_ends, version_unknown, ms_too_large}
use Rattle.byte_reader.specs.Reading.{Got, ok, no}
use Rattle.evf_events.specs.declared.EventCursor.{EventCursor}
use Rattle.evf_events.specs.declared.Step.{Step}
use Rattle.evf_events.specs.declared.Step.TheVariants.{Got as Next, End, Refused}
use Rattle.record_fields.specs.Fields.{Whole, ends, mouse}
use Rattle.records_v0_v3.specs.Records.{old_record}
use Rattle.records_v4.specs.Records.{first_record, Change, moves, becomes, Later, stops, skips, pauses, event}
use Rattle.records_v4.specs.Records.{later_record}

-- ONE EVENT

-- a mouse event, and the cursor behind its record
abbrev pub mouse_at : (version at : ℕ) → MouseKind → (ms x y : ℕ) → Step
mouse_at version at kind ms x y =
    Next (Mouse (seconds_of ms) kind x y)
    (record { version = version; at = at; first = false; ms = record { 0 = ms }; x = x; y = y })

-- a record that is an event by itself
abbrev pub whole : (version : ℕ) → Got Whole → Step
whole version (ok (ends checksum) to) = End to checksum
whole version (ok (mouse kind ms x y) to) = mouse_at version to kind ms x y
whole version (no n) = Refused n

-- the number of the refusal, 0 for none
abbrev pub step_number : Step → ℕ
step_number (Next e c) = 0
step_number (End at checksum) = 0
step_number (Refused n) = n

-- Milliseconds that pass the largest u32 are refused.
abbrev pub where_ms_fit : (ms : ℕ) → Step → Step
where_ms_fit ms answer = cond (nat_le ms largest_ms) answer (Refused ms_too_large)

-- An event at ms, from where the cursor c stands: the mouse moves on modulo 65536, and a game state leaves it
-- where it is.
abbrev pub changed : EventCursor → (at ms : ℕ) → Change → Step
changed c at ms (moves kind dx dy) =
    mouse_at c.version at kind ms ((c.x + dx) % 65536) ((c.y + dy) % 65536)
changed c at ms (becomes state) =
    Next (State (seconds_of ms) state)
    (record { version = c.version; at = at; first = false; ms = record { 0 = ms }; x = c.x; y = c.y })

-- an event `wait` after the last one and the pauses since
unfoldable pub event_after : EventCursor → (at pending wait : ℕ) → Change → Step
event_after c at pending wait change =
    where_ms_fit (c.ms.0 + (pending + wait)) (changed c at (c.ms.0 + (pending + wait)) change)

-- What a record after the first comes to, where `pending` is the sum of the pauses since the last event. `on`
-- goes on at a place with a sum.
abbrev pub act : Got Later → (on : ℕ → ℕ → Step) → EventCursor → (pending : ℕ) → Step
act (ok stops to) on c pending = End to true
act (ok skips to) on c pending = on to pending
act (ok (pauses ms) to) on c pending = where_ms_fit (pending + ms) (on to (pending + ms))
act (ok (event wait change) to) on c pending = event_after c to pending wait change
act (no n) on c pending = Refused n

unfoldable pub later : ℕ → List ℕ → EventCursor → (at pending : ℕ) → Step
later zero file c at pending = Refused file_ends
later (suc turns) file c at pending = act (later_record file at) (later turns file c) c pending

-- the next event of version 4 from a place on; a record takes a byte or more, so as many turns as bytes are
-- left will do
unfoldable pub later_from : List ℕ → EventCursor → (at pending : ℕ) → Step
later_from file c at pending = later (length file - at) file c at pending

-- the answer of a cursor
unfoldable pub step_of : List ℕ → EventCursor → Step
step_of file c =
    cond (nat_lt 4 c.version) (Refused version_unknown)
    (cond (nat_lt c.version 4) (whole c.version (old_record c.version file c.at))
    (cond c.first (whole c.version (first_record file c.at))
    (later_from file c c.at 0)))

-- ALL EVENTS

-- the events in their order, the place behind their end and whether a checksum stands there; or the refusal
pub data Events : Type 0 where
  read : List Event → (at : ℕ) → (checksum : Bool) → Events
  refused : ℕ → Events

abbrev pub with_first : Event → Events → Events
with_first e (read es at checksum) = read (e ∷ es) at checksum
with_first e (refused n) = refused n

abbrev pub step_then : Step → (EventCursor → Events) → Events
step_then (Next e c) on = with_first e (on c)
step_then (End at checksum) on = read [] at checksum
step_then (Refused n) on = refused n

unfoldable pub run : ℕ → List ℕ → EventCursor → Events
run zero file c = refused file_ends
run (suc turns) file c = step_then (step_of file c) (run turns file)

-- all events from a cursor on; each takes a byte or more
unfoldable pub events_from : List ℕ → EventCursor → Events
events_from file c = run (suc (length file - c.at)) file c

-- SO MANY OF THEM, for a caller that counted them before

-- the event of a step and those after it; none at the end and at a refusal
abbrev pub step_then_on : Step → (EventCursor → List Event) → List Event
step_then_on (Next e c) on = e ∷ on c
step_then_on (End at checksum) on = []
step_then_on (Refused n) on = []

-- the events of n steps from a cursor on, fewer where the end or a refusal comes before
unfoldable pub first_events : ℕ → List ℕ → EventCursor → List Event
first_events zero file c = []
first_events (suc n) file c = step_then_on (step_of file c) (first_events n file)
