-- `left_out::count_states` meets its contract: each turn takes a step and counts its event. Assumes nothing.
use Prim.Native.Nat.{◌-◌}
use Rattle.evf_events.specs.Events.{first_events}
use Rattle.left_out.specs.LeftOut.{states_in}
use Rattle.left_out.proofs.States.{Counts}
use Rattle.left_out.proofs.count_states.Given as goal

abbrev pub invariant-loop : goal.invariant-loop
invariant-loop l =
    Counts l.file l.c (states_in (first_events l.events l.file l.fn.from)) l.events l.states (l.events - l.counter)
