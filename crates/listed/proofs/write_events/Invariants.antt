-- `listed::write_events` meets its contract: each turn takes a step and writes its line. Assumes nothing.
use Prim.Native.Nat.{◌-◌}
use Rattle.listed.specs.Listed.{event_lines}
use Rattle.evf_events.specs.Events.{first_events}
use Rattle.listed.proofs.Events.{Wrote}
use Rattle.listed.proofs.write_events.Given as goal

abbrev pub invariant-loop : goal.invariant-loop
invariant-loop l =
    Wrote (event_lines (first_events l.most l.file l.fn.first)) l.initial.out l.out l.from l.at l.file l.c
    (l.most - l.counter)
