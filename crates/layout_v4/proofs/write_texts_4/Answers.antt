-- `layout_v4::write_texts_4` meets its contract: six fields in a row. Assumes nothing.
use native.Mathlib.Omega.{arith}
use Rattle.layout_v4.specs.Version4.{texts4}
use Rattle.byte_writer.proofs.Laws.{writes_then}
use Rattle.layout_v4.proofs.write_texts_4.Goals as goal

pub returns : goal.returns
unfolding texts4
returns c =
    writes_then (omega (arith, c.well_formed.0.0))
    c.write_text-at.ensures (λ l.
    writes_then l c.write_translation-at.ensures (λ l.
    writes_then l c.write_text-at-2.ensures (λ l.
    writes_then l c.write_text-at-3.ensures (λ l.
    writes_then l c.write_text-at-4.ensures (λ l.
    c.write_counted.ensures)))))
