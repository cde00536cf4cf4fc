-- `layout_fields::write_start` meets its contract: nine fields in a row. Assumes nothing.
use mathlib.Core.Path.{ap}
use native.Mathlib.Omega.{arith}
use Rattle.byte_reader.specs.Numbers.{bytes_of}
use Rattle.layout_fields.specs.Fields.{start_bytes}
use Rattle.byte_writer.proofs.Laws.{writes_then, writes_as}
use Rattle.layout_fields.proofs.Low.{low_1, low_2}
use Rattle.layout_fields.proofs.write_start.Goals as goal

pub returns : goal.returns
unfolding start_bytes
returns c =
    writes_then (omega (arith, c.well_formed.0.0)) c.write_u8-at.ensures
    (λ l.
    writes_then l c.write_u8-at-2.ensures (λ l.
    writes_then l
    (writes_as (ap (bytes_of 1) c.second_flags.ensures) c.write_u8-at-3.ensures) (λ l.
    writes_then l (writes_as (low_1 _ _ c.low_u8.ensures) c.write_u8-at-4.ensures) (λ l.
    writes_then l (writes_as (low_1 _ _ c.low_u8-2.ensures) c.write_u8-at-5.ensures) (λ l.
    writes_then l (writes_as (low_2 _ _ c.low_u16.ensures) c.write_u16-at.ensures) (λ l.
    writes_then l c.write_u8-at-6.ensures (λ l.
    writes_then l c.write_u16-at-2.ensures (λ l.
    writes_as (low_2 _ _ c.low_u16-2.ensures) c.write_u16.ensures))))))))
