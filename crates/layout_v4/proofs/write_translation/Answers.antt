-- `layout_v4::write_translation` meets its contract. Assumes nothing.
use mathlib.Core.List.{[]}
use native.Mathlib.Omega.{arith}
use Rattle.byte_writer.proofs.Laws.{writes_none, writes_then, writes_as}
use Rattle.layout_fields.specs.Fields.{lent}
use Rattle.layout_v4.proofs.Translation.{translated, untranslated}
use Rattle.layout_v4.proofs.write_translation.Goals as goal

pub returns-then-h : goal.returns-then-h
returns-then-h c =
    writes_as (translated (lent c.args.h c.args.bytes.now [] []) c.if-h.true)
    (writes_then (omega arith) c.write_text-next.ensures (λ l. c.write_text.ensures))

pub returns : goal.returns
returns c =
    writes_as (untranslated (lent c.args.h c.args.bytes.now [] []) c.if-h.false)
    (writes_none _ _ (omega arith))
