-- `layout_v3::write_texts_3` meets its contract: eight fields in a row. Assumes nothing.
use native.Mathlib.Omega.{arith}
use Rattle.layout_v3.specs.Version3.{texts3}
use Rattle.byte_writer.proofs.Laws.{writes_then}
use Rattle.layout_v3.proofs.write_texts_3.Goals as goal

pub returns : goal.returns
unfolding texts3
returns c =
    writes_then (omega (arith, c.well_formed.0.0))
    c.write_text-at.ensures (λ l.
    writes_then l c.write_text-at-2.ensures (λ l.
    writes_then l c.write_text-at-3.ensures (λ l.
    writes_then l c.write_text-at-4.ensures (λ l.
    writes_then l c.write_decimal-at.ensures (λ l.
    writes_then l c.write_decimal-at-2.ensures (λ l.
    writes_then l c.write_text-at-5.ensures (λ l.
    c.write_text.ensures)))))))
