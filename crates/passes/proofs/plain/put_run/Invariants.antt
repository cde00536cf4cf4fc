-- `plain::put_run` meets its contract. The invariant: what is right to write from here is right from the
-- start. The measure is the bytes left. Assumes nothing.
use Rattle.std.proofs.Common.{◌-◌, length}
use Rattle.passes.specs.PlainRuns.{PutsOn}
use Rattle.evf_records.specs.Steps.{run_past}
use Rattle.passes.proofs.plain.put_run.Given as goal

abbrev pub invariant-loop-kind : goal.invariant-loop-kind
invariant-loop-kind l =
    PutsOn l.file l.version l.from (run_past l.rule l.start l.fn.first) l.initial.out l.at
    (run_past l.rule l.to l.last) l.out

abbrev pub decreases-loop-kind : goal.decreases-loop-kind
decreases-loop-kind l = length l.file - l.at
