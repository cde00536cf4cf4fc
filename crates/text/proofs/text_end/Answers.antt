use mathlib.Core.Path.{sym, ◌∙◌}
use Rattle.text.proofs.Ends.{end-here, end_later, end_none}
use Rattle.text.proofs.text_end.Goals as goal

pub returns-then-s-i-eq0 : goal.returns-then-s-i-eq0
returns-then-s-i-eq0 c = sym
    (c.loop-i.invariant ∙ end-here _ _ c.loop-i-test.true
    c.if-s-i-eq0.true)

pub loop-i-preserved : goal.loop-i-preserved
loop-i-preserved c = c.loop-i.invariant ∙ end_later _ _ c.loop-i-test.true
    c.if-s-i-eq0.false

pub returns : goal.returns
returns c = sym (c.loop-i.invariant ∙ end_none _ _ c.loop-i-test.false)
