-- `lines::escapes::write_shown_text` meets its contract: the first bytes, and the number of bytes where they
-- are not all. Assumes nothing.
use Prim.Native.Nat.{ℕ}
use native.Mathlib.Omega.{arith}
use lib.ListN.{length-take}
use Rattle.byte_writer.proofs.Laws.{writes_then, writes_as}
use Rattle.lines.proofs.Escaping.{shown-short, shown-long}
use Rattle.lines.proofs.escapes.write_shown_text.Goals as goal

pub slice_bounds-start-end : goal.slice_bounds-start-end
slice_bounds-start-end c = omega (arith, length-take {A = ℕ})

pub returns-then-text-le-MOST_SHOWN : goal.returns-then-text-le-MOST_SHOWN
returns-then-text-le-MOST_SHOWN c =
    writes_as (shown-short _ c.if-text-le-MOST_SHOWN.true) c.write_escaped.ensures

pub returns : goal.returns
returns c =
    writes_as
    (shown-long _ c.if-text-le-MOST_SHOWN.false)
    (writes_then (omega (arith, c.well_formed.0.0)) c.write_escaped-end.ensures (λ l.
    writes_then l c.write_bytes-end.ensures (λ l.
    writes_then l c.write_number-end.ensures (λ l.
    c.write_bytes.ensures))))
