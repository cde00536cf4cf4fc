-- `tally::write_counts` meets its contract: five writes in a row. Assumes nothing.
use native.Mathlib.Omega.{arith}
use Rattle.byte_writer.proofs.Laws.{writes_then}
use Rattle.tally.proofs.write_counts.Goals as goal

pub returns : goal.returns
returns c =
    writes_then (omega (arith, c.well_formed.0.0)) c.write_files-files.ensures (λ l.
    writes_then l c.write_count-done.ensures (λ l.
    writes_then l c.write_differ-differ.ensures (λ l.
    writes_then l c.write_count-refused.ensures (λ l. c.write_count.ensures))))
