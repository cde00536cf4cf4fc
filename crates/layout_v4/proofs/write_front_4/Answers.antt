-- `layout_v4::write_front_4` meets its contract: eight parts in a row. Assumes nothing.
use mathlib.Core.Path.{ap}
use Prim.Native.Nat.{ℕ}
use native.Mathlib.Omega.{arith}
use Rattle.layout_fields.specs.Fields.{start_bytes, board_bytes}
use Rattle.layout_v4.specs.Version4.{translation_bytes, texts4, metrics_bytes, front4}
use Rattle.byte_writer.proofs.Laws.{writes_then, writes_as}
use Rattle.layout_v4.proofs.write_front_4.Goals as goal

pub returns : goal.returns
unfolding front4 board_bytes texts4 translation_bytes metrics_bytes
returns c =
    writes_then
    (omega (
      arith,
      c.well_formed.0.0,
    ))
    (writes_as
    (ap (λ (f : ℕ). start_bytes 4 f
    c.args.h)
    c.flags_4.ensures) c.write_start-at.ensures) (λ l.
    writes_then l c.write_u32-at.ensures (λ l.
    writes_then l c.write_country-at.ensures (λ l.
    writes_then l c.write_u64-at.ensures (λ l.
    writes_then l c.write_u64-at-2.ensures (λ l.
    writes_then l c.write_texts_4-at.ensures (λ l.
    writes_then l c.write_board-at.ensures (λ l.
    c.write_metrics.ensures)))))))
