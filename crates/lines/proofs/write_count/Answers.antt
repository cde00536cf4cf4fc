-- `lines::write_count` meets its contract: two writes in a row. Assumes nothing.
use native.Mathlib.Omega.{arith}
use Rattle.byte_writer.proofs.Laws.{writes_then}
use Rattle.lines.proofs.write_count.Goals as goal

pub returns : goal.returns
returns c =
    writes_then (omega arith) c.write_number-end.ensures
    (λ l. c.write_bytes.ensures)
