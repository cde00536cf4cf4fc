-- `layout_lengths::add_board` meets its contract. Assumes nothing.
use mathlib.Core.Path.{◌∙◌, ap}
use Rattle.byte_writer.specs.Places.{plus_of}
use Rattle.layout_lengths.proofs.add_board.Goals as goal

pub returns : goal.returns
returns c =
    c.plus.ensures ∙ ap (plus_of c.args.l)
    (c.packed_len.ensures ∙ rw (c.low_u8.ensures, c.low_u8-2.ensures))
