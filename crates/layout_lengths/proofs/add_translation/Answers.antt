-- `layout_lengths::add_translation` meets its contract. Assumes nothing.
use mathlib.Core.List.{[]}
use Prim.Native.Nat.{ℕ}
use mathlib.Core.Path.{ap, ◌∙◌}
use mathlib.Core.List.{List}
use lib.ListN.{length}
use Rattle.byte_writer.specs.Places.{plus_of}
use Rattle.byte_writer.proofs.Laws.{plus_chain}
use Rattle.layout_fields.specs.Fields.{lent}
use Rattle.layout_v4.proofs.Translation.{untranslated}
use Rattle.layout_lengths.proofs.Sums.{both}
use Rattle.layout_lengths.proofs.add_translation.Goals as goal

pub returns-then-h : goal.returns-then-h
returns-then-h c =
    record {
      is = λ board. plus_chain _ _ _ c.add_text-l.ensures c.add_text.ensures
          ∙ ap (plus_of c.args.l)
          (both (lent c.args.h c.args.bytes.now board []) c.if-h.true);
    }

pub returns : goal.returns
returns c =
    record {
      is = λ board. c.plus.ensures ∙ ap (λ (b : List ℕ). plus_of c.args.l (length b))
          (untranslated (lent c.args.h c.args.bytes.now board []) c.if-h.false);
    }
