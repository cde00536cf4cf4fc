-- `tool_lines::write_left` meets its contract: its fields in a row, the last where there are bytes behind
-- the end. Assumes nothing.
use native.Mathlib.Omega.{arith}
use Rattle.byte_writer.proofs.Laws.{writes_then, writes_as}
use Rattle.tool_lines.proofs.Fields.{left-all, left-whole}
use Rattle.tool_lines.proofs.write_left.Goals as goal

pub returns-then-l-gt0 : goal.returns-then-l-gt0
returns-then-l-gt0 c =
    writes_as (left-all _ c.if-l-gt0.true)
    (writes_then (omega arith) c.write_if-at.ensures (λ l.
    writes_then l c.write_if-at-2.ensures (λ l.
    writes_then l c.write_bytes-at.ensures (λ l. c.write_count.ensures))))

pub returns : goal.returns
returns c =
    writes_as (left-whole _ c.if-l-gt0.false)
    (writes_then (omega arith) c.write_if-at.ensures (λ l. c.write_if-at-2.ensures))
