-- `utf8_cases::count` meets its contract: one string more. Assumes nothing.
use mathlib.Core.Path.{sym}
use native.Mathlib.Omega.{arith}
use Rattle.utf8_cases.proofs.Counting.{none_yet, one_passes, none_passes, few}
use Rattle.utf8_cases.proofs.count.Goals as goal
use Rattle.utf8_cases.proofs.count.Goals.{then-passes, else-passes}

pub loop-k-init : goal.loop-k-init
loop-k-init c = sym (none_yet _)

pub overflow_add-found : goal.overflow_add-found
overflow_add-found c =
    record { fits = omega (arith, c.loop-k.invariant, few c.args.n c.loop-k.k) }

pub loop-k-preserved : goal.loop-k-preserved
loop-k-preserved c =
    let n = c.args.n in
    let e = c.passes.ensures in
    elim c.if-passes.branch [
      | then-passes w ↦ omega (arith, c.loop-k.invariant, one_passes n c.loop-k.k _ e w.if-passes.true)
      | else-passes w ↦ omega (arith, c.loop-k.invariant, none_passes n c.loop-k.k _ e w.if-passes.false)
    ]
