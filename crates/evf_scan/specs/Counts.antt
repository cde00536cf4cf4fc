-- What the two private scans promise, one for versions 0 to 3 and one for version 4 after its first record.
-- Definitions only.
use Rattle.std.specs.Prelude.{ℕ, ◌≤◌, ◌<◌, ◌≡◌, false, List}
use Rattle.times.specs.Times.{largest_ms}
use Rattle.game.specs.Refusals.{ms_too_large}
use Rattle.evf_events.specs.declared.EventCursor.{EventCursor}
use Rattle.evf_events.specs.Events.{later_from, step_then, events_from}
use Rattle.evf_scan.specs.declared.Scan.{Scan}
use Rattle.evf_scan.specs.declared.Scan.TheVariants.{Refused as Broken}
use Rattle.evf_scan.specs.Scanning.{scanned}

-- r is what a scan answers that stands at a place in versions 0 to 3 and has counted k events, whatever
-- cursor led there
pub record CountsOld (file : List ℕ) (at k : ℕ) (r : Scan) : Type 0 where
  pub right : (c : EventCursor) → c.version < 4 → c.at ≡ at → r ≡ scanned k (events_from file c)

-- the same in version 4 after the first record: ms is the last event's, and `pending` the sum of the pauses
-- since
pub record CountsLater (file : List ℕ) (at ms pending k : ℕ) (r : Scan) : Type 0 where
  pub right : ms ≤ largest_ms → (c : EventCursor) → c.version ≡ 4 → c.first ≡ false → c.ms.0 ≡ ms
      → r ≡ scanned k (step_then (later_from file c at pending) (events_from file))
  pub late : largest_ms < ms → r ≡ Broken ms_too_large
