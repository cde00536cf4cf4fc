-- `layout_lengths::add_counted` meets its contract. Assumes nothing.
use mathlib.Core.Path.{ap, ◌∙◌}
use Rattle.byte_writer.specs.Places.{plus_of}
use Rattle.byte_writer.proofs.Laws.{plus_chain}
use Rattle.layout_lengths.proofs.Sums.{counted-length}
use Rattle.layout_lengths.proofs.add_counted.Goals as goal

pub returns : goal.returns
returns c =
    plus_chain _ _ _ c.plus-l.ensures c.plus.ensures ∙ ap (plus_of c.args.l)
    (counted-length _ _ c.text_of-text.ensures)
