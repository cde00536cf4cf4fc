-- `byte_writer::write_c_string` meets its contract: two writes in a row. Assumes nothing.
use native.Mathlib.Omega.{arith}
use Rattle.byte_writer.proofs.Laws.{writes_then}
use Rattle.byte_writer.proofs.write_c_string.Goals as goal

pub returns : goal.returns
returns c = writes_then (omega arith)
    c.write_bytes-end.ensures
    (λ l. c.write_u8.ensures)
