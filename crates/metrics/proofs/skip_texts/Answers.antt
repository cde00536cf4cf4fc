use Rattle.metrics.proofs.Skipped.{one-skipped, all-skipped}
use Rattle.metrics.proofs.skip_texts.Goals as goal

pub loop-preserved : goal.loop-preserved
loop-preserved c = one-skipped _ _ _ c.loop.invariant c.loop-test.true
    c.get_utf8_c_string-next.ensures

pub returns : goal.returns
returns c = all-skipped _ _ _ c.loop.invariant c.loop-test.false
