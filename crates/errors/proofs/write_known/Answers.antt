-- `errors::write_known` meets its contract: the literal holds the table's words, which antt computes.
-- Assumes nothing.
use mathlib.Core.Path.{refl}
use Rattle.byte_writer.proofs.Laws.{writes_as}
use Rattle.text_table.specs.Texts.{texts}
use Rattle.text_table.proofs.Laws.{text_of}
use Rattle.errors.specs.Errors.{table}
use Rattle.errors.specs.Places.{texts_of, text_at_place}
use Rattle.errors.proofs.write_known.Goals as goal

pub returns : goal.returns
unfolding texts table text_at_place
returns c =
    let k = c.args.k in
    writes_as (text_of _ {all = texts_of table} k refl) c.write_text.ensures
