-- `resaved::write_resaved` meets its contract: its fields in a row. Assumes nothing.
use native.Mathlib.Omega.{arith}
use Rattle.byte_writer.proofs.Laws.{writes_then, writes_as}
use Rattle.resaved.proofs.Fields.{resaved_line_lem}
use Rattle.resaved.proofs.write_resaved.Goals as goal

pub returns : goal.returns
returns c =
    writes_as (resaved_line_lem _ _)
    (writes_then (omega (arith, c.well_formed.0.0))
    c.write_bytes-at.ensures (λ l.
    writes_then l c.write_count-at.ensures (λ l.
    writes_then l c.write_count-at-2.ensures (λ l.
    writes_then l c.write_count-at-3.ensures (λ l.
    writes_then l c.write_count-at-4.ensures (λ l.
    writes_then l c.write_left-at.ensures (λ l. c.write_bytes.ensures)))))))
