use Prim.Native.Nat.{◌-◌}
use mathlib.Core.Path.{◌≡◌, sym, ◌∙◌}
use native.Mathlib.Omega.{arith}
use Rattle.evf_events.proofs.Firsts.{first_none, first-zero}
use Rattle.left_out.proofs.States.{at_most_one, counts-none, counts-more, counts_all}
use Rattle.left_out.proofs.count_states.Goals as goal

pub loop-init : goal.loop-init
loop-init c =
    let all : c.args.events - 0 ≡ c.args.events = omega arith in
    rw all (counts-none _ _ _)

pub overflow_add-states : goal.overflow_add-states
overflow_add-states c =
    omega (
      arith,
      c.state_count-states.ensures,
      at_most_one c.in-Got.event,
      c.loop.invariant.few,
    )

pub returns-in_default : goal.returns-in_default
returns-in_default c =
    counts_all _ _ _ (first_none _ _ _ _ c.step.ensures c.in_default.not-Got) c.loop.invariant

pub loop-preserved : goal.loop-preserved
loop-preserved c =
    rw c.state_count-states.ensures
    (counts-more _ _ _ _ (omega arith) (sym c.step.ensures ∙ c.in-Got.is) c.loop.invariant)

pub returns-after-loop : goal.returns-after-loop
returns-after-loop c =
    counts_all _ _ _ (first-zero _ _ _ (omega arith)) c.loop.invariant
