-- What the functions of `later` promise: a run of mouse events of version 4 passed at once
-- leaves what one event at a time would. Definitions only.
use Rattle.std.specs.Prelude.{◌≡◌, ℕ, ◌+◌, ◌%◌, ◌≤◌, Bool, not, ◌&&◌, List, ◌==◌, nat_le}
use mathlib.Core.List.{foldl}
use Rattle.game.specs.declared.Event.{Event}
use Rattle.records_v4.specs.declared.mouse.MouseRecord.{MouseRecord}
use Rattle.records_v4.specs.MouseRecords.{record_length, is_mouse}
use Rattle.evf_events.specs.declared.EventCursor.{EventCursor}
use Rattle.evf_events.specs.Events.{first_events}

-- the latest moment behind which every wait of a record, 255 at most, still fits a u32
abbrev pub latest : ℕ
latest = 4294967040

-- a mouse event's record stands right at a cursor behind the first event of version 4, early enough
unfoldable pub is_next : List ℕ → EventCursor → Bool
is_next file c =
    (c.version == 4) && (not c.first && (nat_le c.ms.0 latest && is_mouse file c.at))

-- the cursor behind a record, by the wait and the differences that it tells
abbrev pub cursor_behind : EventCursor → MouseRecord → EventCursor
cursor_behind c r = record {
  version = c.version;
  at = c.at + record_length;
  first = c.first;
  ms = record { 0 = c.ms.0 + r.wait };
  x = (c.x + r.dx) % 65536;
  y = (c.y + r.dy) % 65536;
}

-- n events from a cursor on, and n' from one behind it: from there the fold comes to the same
pub record PassesRun {A : Type 0} (f : A → Event → A) (file : List ℕ) (c : EventCursor) (n : ℕ) (a : A)
    (c' : EventCursor) (n' : ℕ) (a' : A) : Type 0 where
  pub right : foldl f a' (first_events n' file c') ≡ foldl f a (first_events n file c)
  pub fewer : n' ≤ n
