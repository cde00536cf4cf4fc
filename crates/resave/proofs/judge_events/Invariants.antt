-- `resave::judge_events` meets its contract: each turn takes a step and judges its event, and the run
-- behind it. Assumes nothing.
use Rattle.evf_events.specs.Events.{first_events}
use Rattle.evf_records.specs.Steps.{unseen, seen_after, seen_by}
use Rattle.resave.proofs.Folds.{Left}
use Rattle.resave.proofs.judge_events.Given as goal

abbrev pub invariant-loop-left : goal.invariant-loop-left
invariant-loop-left l =
    Left seen_after l.file (seen_by (unseen 4 l.rule) (first_events l.events l.file l.initial.c)) l.seen l.c l.left

abbrev pub decreases-loop-left : goal.decreases-loop-left
decreases-loop-left l = l.left
