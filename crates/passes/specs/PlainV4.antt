-- What the functions of `plain_v4` promise: a run of plain events of version 4 taken at once leaves to be
-- judged, or written, what one event at a time would. Definitions only.
use Rattle.std.specs.Prelude.{◌≡◌, ℕ, ◌+◌, ◌%◌, ◌≤◌, Bool, false, not, ◌&&◌, List, length, ◌==◌}
use Rattle.records_v4.specs.declared.mouse.MouseRecord.{MouseRecord}
use Rattle.evf_events.specs.declared.EventCursor.{EventCursor}
use Rattle.evf_events.specs.Events.{first_events}
use Rattle.mouse_records.specs.declared.Last.{Last}
use Rattle.evf_records.specs.declared.Seen.{Seen}
use Rattle.evf_records.specs.declared.Run.{Run}
use Rattle.evf_records.specs.Steps.{seen_by, put_by}

-- the cursor at a place of version 4, behind a mouse event
abbrev pub cursor_at : (at : ℕ) → Last → EventCursor
cursor_at at last = record { version = 4; at = at; first = false; ms = last.ms; x = last.x; y = last.y }

-- a cursor is one, at its place
unfoldable pub is_behind : EventCursor → Last → Bool
is_behind c last =
    (c.version == 4)
    && (not c.first && (c.ms.0 == last.ms.0 && (c.x == last.x && c.y == last.y)))

-- the mouse event behind another one, by the wait and the differences that its record tells
abbrev pub moved_by : Last → MouseRecord → Last
moved_by last r = record {
  ms = record { 0 = last.ms.0 + r.wait };
  x = (last.x + r.dx) % 65536;
  y = (last.y + r.dy) % 65536;
}

-- n events from a cursor on, and n' from one behind it: judged on from there, all comes to the same
pub record JudgesRun (file : List ℕ) (c : EventCursor) (seen : Seen) (n : ℕ) (c' : EventCursor) (seen' : Seen)
    (n' : ℕ) : Type 0 where
  pub right : seen_by seen' (first_events n' file c') ≡ seen_by seen (first_events n file c)
  pub fewer : n' ≤ n

-- and so it is with writing
pub record PutsRun (file : List ℕ) (c : EventCursor) (run : Run) (out : List ℕ) (n : ℕ) (c' : EventCursor)
    (run' : Run) (out' : List ℕ) (n' : ℕ) : Type 0 where
  pub right : put_by run' out' (first_events n' file c') ≡ put_by run out (first_events n file c)
  pub fewer : n' ≤ n
  pub long : length out' ≡ length out
