-- An arm for each sort of record, and the end where the moments grow too large. Assumes nothing.
use native.Mathlib.Omega.{arith}
use Rattle.records_v4.proofs.Records.{told-later}
use Rattle.evf_scan.proofs.Scans.{skip-on, pause-passed, later-refused, pause-refused, later-ended}
use Rattle.evf_scan.proofs.Scans.{renamed, event-on}
use Rattle.evf_scan.proofs.scan_later.Goals as goal

pub loop-ms-preserved-in-Mouse : goal.loop-ms-preserved-in-Mouse
loop-ms-preserved-in-Mouse c =
    let s = told-later c.in-Mouse.is
    c.later_record.ensures in (
      λ r h. c.loop-ms.invariant.0 r
          (event-on _ _ _ _ _ r _ s c.from.ensures
          c.loop-ms-test.true h),
      omega arith,
      omega arith,
    )

pub loop-ms-preserved-in-State : goal.loop-ms-preserved-in-State
loop-ms-preserved-in-State c =
    let s = told-later c.in-State.is
    c.later_record.ensures in (
      λ r h. c.loop-ms.invariant.0 r
          (event-on _ _ _ _ _ r _ s c.from-in-State.ensures
          c.loop-ms-test.true h),
      omega arith,
      omega arith,
    )

pub loop-ms-preserved-in-Skip : goal.loop-ms-preserved-in-Skip
loop-ms-preserved-in-Skip c =
    let l = c.loop-ms in (
      λ r h. l.invariant.0 r
          (skip-on _ _ _ _ _ r (told-later c.in-Skip.is c.later_record.ensures)
          h),
      omega arith,
      omega arith,
    )

pub returns-then-pending-gt-LARGEST_MS : goal.returns-then-pending-gt-LARGEST_MS
returns-then-pending-gt-LARGEST_MS c =
    let s = told-later c.in-Pause.is
    c.later_record.ensures in
    renamed _ _ _ _ _ c.from-ms.ensures
    (c.loop-ms.invariant.0 _
    (pause-refused _ _ _ _ _ c.loop-ms-test.true _ s
    c.from-pending.ensures (omega arith)))

pub loop-ms-preserved : goal.loop-ms-preserved
loop-ms-preserved c =
    let s = told-later c.in-Pause.is
    c.later_record.ensures in (
      λ r h. c.loop-ms.invariant.0 r (pause-passed _ _ _ _ _ r _ s c.from-pending.ensures (omega arith) h),
      omega arith,
      omega arith,
    )

pub returns-in-Stop : goal.returns-in-Stop
returns-in-Stop c =
    let s = told-later c.in-Stop.is c.later_record.ensures in
    renamed _ _ _ _ _ c.from-ms.ensures
    (c.loop-ms.invariant.0 _
    (later-ended _ _ _ _ _ c.loop-ms-test.true s))

pub returns-in-Refused : goal.returns-in-Refused
returns-in-Refused c =
    let s = told-later c.in-Refused.is c.later_record.ensures in
    renamed _ _ _ _ _ c.from-ms.ensures
    (c.loop-ms.invariant.0 _
    (later-refused _ _ _ _ _ c.loop-ms-test.true _ s))
