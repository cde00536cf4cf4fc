-- `passes::look_over` meets its contract. The invariant: what was seen so far, with the events from here on,
-- is the survey of the whole. The measure is the bytes left. Assumes nothing.
use Rattle.std.proofs.Common.{◌-◌, length}
use Rattle.passes.proofs.Passes.{Looking}
use Rattle.passes.proofs.look_over.Given as goal

abbrev pub invariant-loop-kind : goal.invariant-loop-kind
invariant-loop-kind l = Looking l.file l.version l.from l.rule l.at l.seen

abbrev pub decreases-loop-kind : goal.decreases-loop-kind
decreases-loop-kind l = length l.file - l.at
