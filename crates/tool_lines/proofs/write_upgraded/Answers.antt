-- `tool_lines::write_upgraded` meets its contract: its fields in a row. Assumes nothing.
use native.Mathlib.Omega.{arith}
use Rattle.byte_writer.proofs.Laws.{writes_then, writes_as}
use Rattle.tool_lines.proofs.Fields.{upgraded_line_lem}
use Rattle.tool_lines.proofs.write_upgraded.Goals as goal

pub returns : goal.returns
returns c =
    writes_as (upgraded_line_lem _ _ _)
    (writes_then (omega (arith, c.well_formed.0.0))
    c.write_bytes-at.ensures (λ l.
    writes_then l c.write_count-at.ensures (λ l.
    writes_then l c.write_count-at-2.ensures (λ l.
    writes_then l c.write_left-at.ensures (λ l. c.write_bytes.ensures)))))
