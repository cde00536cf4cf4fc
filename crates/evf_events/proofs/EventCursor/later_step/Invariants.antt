-- `EventCursor::later_step` meets its contract. The invariant: what is to be answered is what the definition
-- goes on with from here, and the pauses so far add up to a u32. The measure is the bytes left. Assumes
-- nothing.
use Rattle.std.proofs.Common.{◌≡◌, ◌-◌, ◌≤◌, length}
use Rattle.evf_events.specs.Events.{later_from}
use Rattle.evf_events.proofs.EventCursor.later_step.Given as goal

abbrev pub invariant-loop-kind : goal.invariant-loop-kind
invariant-loop-kind l =
    (later_from l.file l.self l.self.at 0 ≡ later_from l.file l.self l.at l.pending) × (l.pending ≤ 4294967295)

abbrev pub decreases-loop-kind : goal.decreases-loop-kind
decreases-loop-kind l = length l.file - l.at
