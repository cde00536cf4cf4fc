-- `header_fields::read_board_place` meets its contract: a refusal that reads nothing, then the bytes.
-- Assumes nothing.
use mathlib.Core.Path.{refl, sym, ◌∙◌}
use lib.Dec.{eqb}
use Rattle.game.specs.Refusals.{height_zero}
use Rattle.byte_reader.specs.Reading.{refuse_when}
use Rattle.byte_reader.proofs.Cursor.{reads_then, refuse_when_lem}
use Rattle.header_fields.specs.Fields.{board_bytes}
use Rattle.header_fields.proofs.read_board_place.Goals as goal

pub returns : goal.returns
unfolding board_bytes
returns c =
    let a = c.args in
    let file = a.file.now in
    rw (← c.packed_len.ensures)
    (reads_then tt (refuse_when (eqb a.height 0) height_zero) _ file
    (record {
      value-is = refl;
      next-is = c.refuse_if-known.ensures
          ∙ sym (refuse_when_lem _ _ file a.c);
    })
    c.get_buffer.ensures)
