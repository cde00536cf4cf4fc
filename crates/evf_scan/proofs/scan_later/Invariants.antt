-- `evf_scan::scan_later` meets its contract. The invariant: what is right from here is right from the start,
-- there are no more events than bytes, and the sums stay small. The measure is the bytes left. Assumes
-- nothing.
use Prim.Native.Nat.{◌-◌, ◌≤◌}
use lib.ListN.{length}
use Rattle.evf_scan.specs.declared.Scan.{Scan}
use Rattle.evf_scan.specs.Counts.{CountsLater}
use Rattle.evf_scan.proofs.scan_later.Given as goal

abbrev pub invariant-loop-ms : goal.invariant-loop-ms
invariant-loop-ms l =
    ((r : Scan) → CountsLater l.file l.at l.ms l.pending l.events r → CountsLater l.file l.from l.initial.ms 0 l.before r)
    × (l.pending ≤ 4294967295) × (l.events ≤ l.at)

abbrev pub decreases-loop-ms : goal.decreases-loop-ms
decreases-loop-ms l = length l.file - l.at
