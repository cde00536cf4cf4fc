-- `layout_lengths::add_tail_3` meets its contract: the lengths of its parts in a row. Assumes nothing.
use mathlib.Core.List.{[]}
use mathlib.Core.Path.{ap, ◌∙◌}
use Prim.Native.Nat.{ℕ}
use mathlib.Core.List.{List}
use lib.ListN.{length}
use Rattle.byte_writer.specs.Places.{plus_of}
use Rattle.layout_fields.specs.Fields.{lent}
use Rattle.byte_writer.proofs.Laws.{plus_chain}
use Rattle.layout_lengths.proofs.Sums.{tail3-length}
use Rattle.layout_lengths.proofs.add_tail_3.Goals as goal

pub returns : goal.returns
returns c =
    record {
      is = λ board. plus_chain _ _ _ c.plus-l.ensures
          (c.plus.ensures ∙ ap (λ (t : List ℕ). plus_of c.plus-l.result (length t))
          c.text_of-checksum.ensures) ∙ ap (plus_of c.args.l)
          (tail3-length (lent c.args.h c.args.bytes.now board []));
    }
