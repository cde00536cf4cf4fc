-- `writing::put_record_3` meets its contract: the record's fields one behind the other. Assumes nothing.
use Rattle.std.proofs.Common.{arith}
use Rattle.mouse_records.proofs.Records.{record3-written}
use Rattle.mouse_records.proofs.writing.put_record_3.Goals as goal

pub returns : goal.returns
returns c =
    record3-written (omega arith) _ _ _ _ c.from.ensures (omega arith)
    c.write_u8-ms_at.ensures c.write_u24-x_at.ensures
    c.put_two.ensures
