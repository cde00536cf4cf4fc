-- How many events a file has and where they end (01, Events; Refusals 1, 2, 8, 9 and 10). Definitions only.
use Rattle.std.specs.Prelude.{ℕ, ◌+◌, List, length}
use Rattle.evf_events.specs.declared.EventCursor.{EventCursor}
use Rattle.evf_events.specs.Events.{Events, read, refused, events_from}
use Rattle.evf_scan.specs.declared.Scan.{Scan}
use Rattle.evf_scan.specs.declared.Scan.TheVariants.{All, Refused as Broken}

-- the number of the refusal, 0 for none
abbrev pub scan_number : Scan → ℕ
scan_number (All n at checksum) = 0
scan_number (Broken n) = n

-- how many there are, after k that were counted before
abbrev pub scanned : (k : ℕ) → Events → Scan
scanned k (read es at checksum) = All (k + length es) at checksum
scanned k (refused n) = Broken n

unfoldable pub scan_of : List ℕ → EventCursor → Scan
scan_of file c = scanned 0 (events_from file c)
