use native.Mathlib.Omega.{arith}
use Rattle.lines.proofs.Escaping.{escaping-more, escaping-all}
use Rattle.lines.proofs.escapes.write_escaped.Goals as goal

pub loop-i-preserved : goal.loop-i-preserved
loop-i-preserved c =
    escaping-more _ _ _ c.loop-i.invariant (omega arith) c.loop-i-test.true
    c.plain_from-plain.ensures c.write_byte-to.ensures c.saturating_sub-left.ensures

pub returns : goal.returns
returns c = escaping-all _ _ _ c.loop-i.invariant c.loop-i-test.false
