-- `layout_fields::write_board` meets its contract: the packed bytes, in the size bytes' number of cells.
-- Assumes nothing.
use mathlib.Core.Path.{◌≡◌, sym, ap, ◌∙◌}
use Prim.Native.Nat.{◌*◌}
use Rattle.board.specs.Bits.{packed}
use Rattle.board.specs.Geometry.{mine_at}
use Rattle.board.proofs.Packed.{length-packed}
use Rattle.layout_fields.specs.Fields.{cell_count}
use Rattle.byte_writer.proofs.Laws.{writes_put, writes_as}
use Rattle.layout_fields.proofs.write_board.Goals as goal

pub returns : goal.returns
returns c =
    let mines = mine_at c.args.board.now in
    let n = c.low_u8-height.result * c.low_u8-width.result in
    let e : n ≡ cell_count c.args.h = rw (c.low_u8-height.ensures, c.low_u8-width.ensures) in
    writes_as (ap (packed mines) e)
    (writes_put (packed mines n) c.put_board.ensures
    (c.packed_len.ensures ∙ sym (length-packed mines n)) c.advance.ensures)
