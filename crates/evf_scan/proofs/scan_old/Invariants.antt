-- `evf_scan::scan_old` meets its contract. The invariant: what is right from here is right from the start,
-- and there are no more events than bytes. Assumes nothing.
use Prim.Native.Nat.{◌≤◌}
use Rattle.evf_scan.specs.declared.Scan.{Scan}
use Rattle.evf_scan.specs.Counts.{CountsOld}
use Rattle.evf_scan.proofs.scan_old.Given as goal

abbrev pub invariant-loop-at : goal.invariant-loop-at
invariant-loop-at l =
    ((r : Scan) → CountsOld l.file l.at l.events r → CountsOld l.file l.from 0 r) × (l.events ≤ l.at)
