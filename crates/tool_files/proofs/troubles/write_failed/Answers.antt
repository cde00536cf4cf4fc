-- `tool_files::troubles::write_failed` meets its contract: three writes in a row. Assumes nothing.
use native.Mathlib.Omega.{arith}
use Rattle.byte_writer.proofs.Laws.{writes_then}
use Rattle.tool_files.proofs.troubles.write_failed.Goals as goal

pub returns : goal.returns
returns c =
    writes_then (omega arith)
    (writes_then (omega arith) c.write_bytes-at.ensures (λ l. c.write_trouble-at.ensures))
    (λ l. c.write_u8.ensures)
