-- `layout_lengths::add_tail_4` meets its contract: the lengths of its parts in a row. Assumes nothing.
use mathlib.Core.List.{[]}
use mathlib.Core.Path.{ap, ◌∙◌}
use Rattle.byte_writer.specs.Places.{plus_of}
use Rattle.layout_fields.specs.Fields.{lent}
use Rattle.byte_writer.proofs.Laws.{plus_chain}
use Rattle.layout_lengths.proofs.Sums.{tail4-length}
use Rattle.layout_lengths.proofs.add_tail_4.Goals as goal

pub returns : goal.returns
returns c =
    record {
      is = λ board. plus_chain _ _ _ c.plus-l.ensures c.add_counted.ensures
          ∙ ap (plus_of c.args.l) (tail4-length (lent c.args.h c.args.bytes.now board []));
    }
