use mathlib.Core.Path.{refl}
use native.Mathlib.Omega.{arith}
use Rattle.forms.proofs.Filling.{filling-none, filling-more, filling-all}
use Rattle.forms.proofs.write_filled.Goals as goal

pub loop-b-init : goal.loop-b-init
loop-b-init c = filling-none _ _ _ _ _ _ (omega arith)

pub overflow_add-k : goal.overflow_add-k
overflow_add-k c = omega (arith, c.loop-b.invariant.few)

pub loop-b-preserved : goal.loop-b-preserved
loop-b-preserved c =
    filling-more _ _ _ _ _ _ c.loop-b.invariant (omega arith)
    c.loop-b-test.true
    refl c.value_at.ensures c.taken_by-k.ensures.0 c.taken_by-k.ensures.1
    c.write_piece-to.ensures

pub returns : goal.returns
returns c = filling-all _ _ _ _ _ _ c.loop-b.invariant c.loop-b-test.false
