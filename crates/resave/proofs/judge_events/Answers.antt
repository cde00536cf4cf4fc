use mathlib.Core.Path.{sym, ◌∙◌}
use native.Mathlib.Omega.{arith}
use Rattle.resave.proofs.Folds.{left-more, left-on, left-stopped, left_none}
use Rattle.resave.proofs.judge_events.Goals as goal

pub returns-in_default : goal.returns-in_default
returns-in_default c = left-stopped c.loop-left.invariant _ c.step.ensures c.in_default.not-Got

pub loop-left-preserved : goal.loop-left-preserved
loop-left-preserved c =
    let w = left-more c.loop-left.invariant (omega (arith, c.loop-left-test.true))
    (sym c.step.ensures ∙ c.in-Got.is) in
    left-on (rw c.judge_entry.ensures w) c.judge_run-on.ensures.right

pub returns-after-loop-left : goal.returns-after-loop-left
returns-after-loop-left c = left_none c.loop-left.invariant (omega arith)
