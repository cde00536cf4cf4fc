-- `passes::put_events` meets its contract. The invariant: what is right to write from here is right from the
-- start. The measure is the bytes left. Assumes nothing.
use Rattle.std.proofs.Common.{◌-◌, length}
use Rattle.passes.proofs.Passes.{Putting}
use Rattle.passes.proofs.put_events.Given as goal

abbrev pub invariant-loop-kind : goal.invariant-loop-kind
invariant-loop-kind l = Putting l.file l.version l.from l.initial.r l.initial.out l.at l.r l.out

abbrev pub decreases-loop-kind : goal.decreases-loop-kind
decreases-loop-kind l = length l.file - l.at
