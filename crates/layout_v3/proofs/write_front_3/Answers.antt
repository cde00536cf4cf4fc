-- `layout_v3::write_front_3` meets its contract: four parts in a row. Assumes nothing.
use mathlib.Core.Path.{ap}
use Prim.Native.Nat.{ℕ}
use native.Mathlib.Omega.{arith}
use Rattle.layout_fields.specs.Fields.{start_bytes, board_bytes}
use Rattle.layout_v3.specs.Version3.{texts3, front3}
use Rattle.byte_writer.proofs.Laws.{writes_then, writes_as}
use Rattle.layout_v3.proofs.write_front_3.Goals as goal

pub returns : goal.returns
unfolding front3 board_bytes texts3
returns c =
    writes_then (omega (arith, c.well_formed.0.0))
    (writes_as
    (ap (λ (f : ℕ). start_bytes 3 f c.args.h)
    c.first_flags.ensures.0) c.write_start-at.ensures) (λ l.
    writes_then l c.write_u24-at.ensures (λ l.
    writes_then l c.write_texts_3-at.ensures (λ l.
    c.write_board.ensures)))
