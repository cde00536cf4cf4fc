use Prim.Native.Nat.{◌-◌}
use mathlib.Core.Path.{◌≡◌, sym, ◌∙◌}
use native.Mathlib.Omega.{arith}
use Rattle.evf_events.proofs.Firsts.{first_none, first-zero}
use Rattle.listed.proofs.Events.{wrote_none, wrote-more, wrote-all}
use Rattle.listed.proofs.write_events.Goals as goal

pub loop-init : goal.loop-init
loop-init c =
    let all : c.args.most - 0 ≡ c.args.most = omega arith in
    rw all (wrote_none _ _ _ (omega arith))

pub returns-in_default : goal.returns-in_default
returns-in_default c =
    wrote-all _ _ _ (first_none _ _ _ _ c.step.ensures c.in_default.not-Got) c.loop.invariant

pub loop-preserved : goal.loop-preserved
loop-preserved c =
    wrote-more _ _ _ _ (omega (arith, c.well_formed.0.0)) (omega arith)
    (sym c.step.ensures ∙ c.in-Got.is) c.loop.invariant c.write_event-at.ensures

pub returns-after-loop : goal.returns-after-loop
returns-after-loop c = wrote-all _ _ _ (first-zero _ _ _ (omega arith)) c.loop.invariant
