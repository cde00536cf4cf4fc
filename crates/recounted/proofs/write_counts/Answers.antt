-- `recounted::write_counts` meets its contract: its fields in a row. Assumes nothing.
use native.Mathlib.Omega.{arith}
use Rattle.byte_writer.proofs.Laws.{writes_then, writes_as}
use Rattle.recounted.proofs.Promised.{counts_line_lem}
use Rattle.recounted.proofs.write_counts.Goals as goal

pub returns : goal.returns
returns c =
    writes_as (counts_line_lem _ _ _ _)
    (writes_then (omega (arith, c.well_formed.0.0)) c.write_bytes-at.ensures (λ l.
    writes_then l c.write_count-at.ensures (λ l.
    writes_then l c.write_count-at-2.ensures (λ l.
    writes_then l c.write_count-at-3.ensures (λ l.
    writes_then l c.write_bytes-at-2.ensures (λ l. c.write_bytes.ensures))))))
