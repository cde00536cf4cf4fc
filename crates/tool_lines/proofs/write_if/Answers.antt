-- `tool_lines::write_if` meets its contract. Assumes nothing.
use native.Mathlib.Omega.{arith}
use Rattle.byte_writer.proofs.Laws.{writes_none}
use Rattle.tool_lines.proofs.write_if.Goals as goal

pub returns-then-has : goal.returns-then-has
returns-then-has c =
    rw c.if-has.true c.write_bytes.ensures

pub returns : goal.returns
returns c = rw c.if-has.false (writes_none _ _ (omega arith))
