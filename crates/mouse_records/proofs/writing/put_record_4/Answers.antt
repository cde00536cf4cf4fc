-- `writing::put_record_4` meets its contract: the pauses, and the record's fields one behind the other.
-- Assumes nothing.
use Rattle.std.proofs.Common.{arith}
use Rattle.mouse_records.proofs.Records.{record4-written}
use Rattle.mouse_records.proofs.writing.put_record_4.Goals as goal

pub returns : goal.returns
returns c =
    record4-written (omega arith) c.args.last _ _ _ _ c.wait_of.ensures
    c.from.ensures (omega arith) c.put_pauses-paused.ensures.1
    c.difference.ensures c.difference-2.ensures
    c.put_pauses-paused.ensures.0 c.write_u8-ms_at.ensures c.write_u8-x_at.ensures
    c.put_two.ensures
