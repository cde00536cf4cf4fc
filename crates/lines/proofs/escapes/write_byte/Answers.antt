-- `lines::escapes::write_byte` meets its contract. Assumes nothing.
use native.Mathlib.Omega.{arith}
use mathlib.Core.Path.{◌∙◌}
use Rattle.byte_writer.proofs.Laws.{writes_as}
use Rattle.lines.proofs.Escaping.{byte_is, shown-escape, shown_plain}
use Rattle.lines.proofs.escapes.write_byte.Goals as goal

pub returns-then-plain-eq0 : goal.returns-then-plain-eq0
returns-then-plain-eq0 c =
    writes_as (shown-escape _ _ c.if-plain-eq0.true)
    c.write_escape.ensures

pub returns : goal.returns
returns c =
    writes_as (byte_is _ (omega arith) ∙ shown_plain _ _ c.if-plain-eq0.false)
    c.write_u8.ensures
