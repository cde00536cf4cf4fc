-- `lines::write_column` meets its contract: two writes in a row. Assumes nothing.
use native.Mathlib.Omega.{arith}
use Rattle.byte_writer.proofs.Laws.{writes_then}
use Rattle.lines.proofs.write_column.Goals as goal

pub returns : goal.returns
returns c = writes_then (omega arith)
    c.write_u8-end.ensures
    (λ l. c.write_number.ensures)
