use mathlib.Core.Path.{sym, ap, ◌∙◌}
use native.Mathlib.Omega.{arith}
use Prim.Native.Nat.{ℕ}
use mathlib.Core.List.{List}
use Rattle.evf_records.specs.declared.Run.{Run}
use Rattle.resave.proofs.Folds.{put_more, put_on, left-stopped, left_none}
use Rattle.resave.proofs.put_events.Goals as goal

pub returns-in_default : goal.returns-in_default
returns-in_default c =
    ap (λ (p : Run × List ℕ). p.1)
    (left-stopped c.loop-left.invariant.left _ c.step.ensures c.in_default.not-Got)

pub loop-left-preserved : goal.loop-left-preserved
loop-left-preserved c =
    put_on
    (put_more c.loop-left.invariant (omega (arith, c.loop-left-test.true))
    (sym c.step.ensures ∙ c.in-Got.is) c.put_entry-r.ensures) c.put_run-on.ensures

pub returns : goal.returns
returns c =
    ap (λ (p : Run × List ℕ). p.1) (left_none c.loop-left.invariant.left (omega arith))
