-- `records_v4::mouse::mouse_at` meets its contract: by whether a record stands there. Assumes nothing.
use Rattle.records_v4.proofs.MouseRecords.{mouse_here, reads_none}
use Rattle.records_v4.proofs.mouse.mouse_at.Goals as goal

pub record_at-requires : goal.record_at-requires
record_at-requires c = mouse_here c.is_mouse.ensures c.if-is_mouse.true

pub returns : goal.returns
returns c = reads_none c.is_mouse.ensures c.if-is_mouse.false
