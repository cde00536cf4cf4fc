-- `generate_evf::whole_len` meets its contract. Assumes nothing.
use mathlib.Core.Path.{ap, ◌∙◌}
use mathlib.Core.List.{[]}
use lib.ListN.{length}
use Rattle.byte_writer.specs.declared.Length.{Length}
use Rattle.byte_writer.specs.Places.{plus_of}
use Rattle.layout_fields.specs.Fields.{lent}
use Rattle.evf_layout.specs.Layout.{tail_of}
use Rattle.generate_evf.specs.Steps.{whole_of}
use Rattle.generate_evf.proofs.whole_len.Goals as goal

pub returns : goal.returns
unfolding whole_of
returns c =
    let a = c.args in
    record {
      is = λ board.
          rw (← c.version-version.ensures, ← c.length-len.ensures)
          (c.add_tail.ensures.is board
          ∙ ap (λ (l : Length). plus_of l
          (length (tail_of c.version-version.result (lent a.h a.bytes.now board []))))
          (c.add_front-len.ensures.is board));
    }
