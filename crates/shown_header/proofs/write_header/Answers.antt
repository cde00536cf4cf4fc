-- `shown_header::write_header` meets its contract: four parts in a row. Assumes nothing.
use native.Mathlib.Omega.{arith}
use Rattle.byte_writer.proofs.Laws.{writes_then}
use Rattle.shown_header.specs.Lines.{header_shown}
use Rattle.shown_header.proofs.write_header.Goals as goal

pub returns : goal.returns
unfolding header_shown
returns c =
    writes_then (omega (arith, c.well_formed.0.0)) c.write_names-at.ensures (λ l.
    writes_then l c.write_translation_if_any-at.ensures (λ l.
    writes_then l c.write_values-at.ensures (λ l.
    c.write_flags.ensures)))
