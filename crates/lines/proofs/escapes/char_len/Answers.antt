-- The first length that is UTF-8, or none of four. Assumes nothing.
use native.Mathlib.Omega.{arith}
use mathlib.Core.Path.{sym, ◌∙◌}
use Rattle.lines.proofs.Escaping.{char_here, char_none}
use Rattle.lines.proofs.escapes.char_len.Goals as goal

pub returns-then-is_part_utf8 : goal.returns-then-is_part_utf8
returns-then-is_part_utf8 c =
    char_here _ _ (omega arith) (omega arith) c.loop-n.invariant (sym c.is_part_utf8.ensures ∙ c.if-is_part_utf8.true)

pub returns : goal.returns
returns c = char_none _ (λ k l h. c.loop-n.invariant k l (omega arith))
