-- Where no pause is left, the rest is the record's. Assumes nothing.
use Rattle.std.proofs.Common.{arith}
use Rattle.mouse_records.proofs.Waits.{over}
use Rattle.mouse_records.proofs.pauses.put_pauses.Goals as goal

pub returns : goal.returns
returns c = over c.loop-rest.invariant (omega arith)
