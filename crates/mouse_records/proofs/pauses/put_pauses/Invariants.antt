-- `pauses::put_pauses` meets its contract. The invariant: the bytes written and those of what is left of the
-- wait are the wait's. The measure is what is left. Assumes nothing.
use Rattle.mouse_records.proofs.Waits.{Writing}
use Rattle.mouse_records.proofs.pauses.put_pauses.Given as goal

abbrev pub invariant-loop-rest : goal.invariant-loop-rest
invariant-loop-rest l = Writing l.initial.out l.from l.wait l.out l.at l.rest

abbrev pub decreases-loop-rest : goal.decreases-loop-rest
decreases-loop-rest l = l.rest
