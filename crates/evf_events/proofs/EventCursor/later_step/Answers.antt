use Rattle.std.proofs.Common.{sym, ◌∙◌, arith}
use Rattle.records_v4.proofs.Records.{told-later}
use Rattle.evf_events.proofs.Turns.{turned, stood, event-stood, pause-late, pause-on}
use Rattle.evf_events.proofs.EventCursor.later_step.Goals as goal

pub returns-in-Mouse : goal.returns-in-Mouse
returns-in-Mouse c =
    let s = told-later c.in-Mouse.is
    c.later_record.ensures in
    event-stood _ _ _ _ s c.from-last.ensures c.from.ensures c.moved.ensures
    ∙ sym c.loop-kind.invariant.0

pub returns-in-State : goal.returns-in-State
returns-in-State c =
    let s = told-later c.in-State.is
    c.later_record.ensures in
    event-stood _ _ _ _ s c.from-last.ensures c.from-in-State.ensures c.came_to.ensures
    ∙ sym c.loop-kind.invariant.0

pub returns-in-Stop : goal.returns-in-Stop
returns-in-Stop c = sym
    (c.loop-kind.invariant.0
    ∙ stood _ _ _ _ (told-later c.in-Stop.is c.later_record.ensures))

pub loop-kind-preserved-in-Skip : goal.loop-kind-preserved-in-Skip
loop-kind-preserved-in-Skip c = (
  c.loop-kind.invariant.0
      ∙ stood _ _ _ _ (told-later c.in-Skip.is c.later_record.ensures),
  c.loop-kind.invariant.1,
)

pub returns-then-pending-gt-LARGEST_MS : goal.returns-then-pending-gt-LARGEST_MS
returns-then-pending-gt-LARGEST_MS c =
    let s = told-later c.in-Pause.is
    c.later_record.ensures in
    sym (c.loop-kind.invariant.0 ∙ pause-late _ _ _ _ _ s c.from-pending.ensures (omega arith))

pub loop-kind-preserved : goal.loop-kind-preserved
loop-kind-preserved c =
    let s = told-later c.in-Pause.is
    c.later_record.ensures in
    (c.loop-kind.invariant.0 ∙ pause-on _ _ _ _ _ s c.from-pending.ensures (omega arith), omega arith)

pub returns-in-Refused : goal.returns-in-Refused
returns-in-Refused c = sym
    (c.loop-kind.invariant.0
    ∙ turned _ _ _ _ (told-later c.in-Refused.is c.later_record.ensures))
