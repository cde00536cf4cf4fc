-- `resave::put_events` meets its contract: each turn takes a step and writes its event, and the run
-- behind it. Assumes nothing.
use Rattle.evf_events.specs.Events.{first_events}
use Rattle.evf_records.specs.Steps.{put_by}
use Rattle.resave.proofs.Folds.{Putting}
use Rattle.resave.proofs.put_events.Given as goal

abbrev pub invariant-loop-left : goal.invariant-loop-left
invariant-loop-left l =
    Putting l.file (put_by l.initial.r l.initial.out (first_events l.events l.file l.initial.c)) l.initial.out l.out l.r l.c l.left

abbrev pub decreases-loop-left : goal.decreases-loop-left
decreases-loop-left l = l.left
