-- `tool_lines::write_read` meets its contract: its fields in a row. Assumes nothing.
use native.Mathlib.Omega.{arith}
use Rattle.byte_writer.proofs.Laws.{writes_then, writes_as}
use Rattle.tool_lines.proofs.Fields.{read_line_lem}
use Rattle.tool_lines.proofs.write_read.Goals as goal

pub returns : goal.returns
returns c =
    writes_as (read_line_lem _ _ _ _ _)
    (writes_then (omega (arith, c.well_formed.0.0))
    c.write_bytes-at.ensures (λ l.
    writes_then l c.write_count-at.ensures (λ l.
    writes_then l c.write_count-at-2.ensures (λ l.
    writes_then l c.write_count-at-3.ensures (λ l.
    writes_then l c.write_count-at-4.ensures (λ l. c.write_count.ensures))))))
