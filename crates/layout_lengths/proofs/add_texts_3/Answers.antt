-- `layout_lengths::add_texts_3` meets its contract: the lengths of its parts in a row. Assumes nothing.
use mathlib.Core.List.{[]}
use mathlib.Core.Path.{ap, ◌∙◌}
use Rattle.byte_writer.specs.Places.{plus_of}
use Rattle.layout_fields.specs.Fields.{lent}
use Rattle.byte_writer.proofs.Laws.{plus_chain}
use Rattle.layout_lengths.proofs.Sums.{texts3-length}
use Rattle.layout_lengths.proofs.add_texts_3.Goals as goal

pub returns : goal.returns
returns c =
    record {
      is = λ board. plus_chain _ _ _
          (plus_chain _ _ _
          (plus_chain _ _ _
          (plus_chain _ _ _
          (plus_chain _ _ _
          (plus_chain _ _ _ (plus_chain _ _ _ c.add_text-l.ensures c.add_text-l-2.ensures)
          c.add_text-l-3.ensures) c.add_text-l-4.ensures) c.add_decimal-l.ensures)
          c.add_decimal-l-2.ensures) c.add_text-l-5.ensures) c.add_text.ensures
          ∙ ap (plus_of c.args.l)
          (texts3-length (lent c.args.h c.args.bytes.now board []));
    }
