-- `tool_output::begin_message` meets its contract: three writes in a row. Assumes nothing.
use native.Mathlib.Omega.{arith}
use Rattle.byte_writer.proofs.Laws.{writes_then}
use Rattle.tool_output.proofs.begin_message.Goals as goal

pub returns : goal.returns
returns c =
    writes_then (omega arith)
    (writes_then (omega arith) c.write_bytes-at.ensures (λ l. c.write_shown-at.ensures))
    (λ l. c.write_bytes.ensures)
