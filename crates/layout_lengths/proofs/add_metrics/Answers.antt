-- `layout_lengths::add_metrics` meets its contract. Assumes nothing.
use mathlib.Core.List.{[]}
use Prim.Native.Nat.{◌+◌}
use mathlib.Core.Path.{ap, ◌∙◌}
use lib.ListN.{length}
use Rattle.byte_writer.specs.Places.{plus_of}
use Rattle.layout_fields.specs.Fields.{lent}
use Rattle.byte_writer.proofs.Laws.{plus_chain}
use Rattle.layout_lengths.proofs.Sums.{metrics-length}
use Rattle.layout_lengths.proofs.add_metrics.Goals as goal

pub returns : goal.returns
returns c =
    record {
      is = λ board. plus_chain _ _ _ c.plus-l.ensures c.plus.ensures
          ∙ ap (λ t. plus_of c.args.l (length t + 2)) c.metrics_block-block.ensures
          ∙ ap (plus_of c.args.l)
          (metrics-length (lent c.args.h c.args.bytes.now board []));
    }
