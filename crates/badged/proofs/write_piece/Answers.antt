-- `badged::write_piece` meets its contract: the literal holds the table's texts, which antt computes.
-- Assumes nothing.
use mathlib.Core.Path.{refl}
use Rattle.byte_writer.proofs.Laws.{writes_as}
use Rattle.text_table.specs.Texts.{texts}
use Rattle.text_table.proofs.Laws.{text_of}
use Rattle.badged.specs.Pieces.{pieces, piece_at}
use Rattle.badged.proofs.write_piece.Goals as goal

pub returns : goal.returns
unfolding texts pieces piece_at
returns c =
    let k = c.args.k in
    writes_as (text_of _ {all = pieces} k refl) c.write_text.ensures
