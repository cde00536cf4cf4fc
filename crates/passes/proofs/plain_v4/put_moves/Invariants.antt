-- `passes::plain_v4::put_moves` meets its contract. The invariant: what is right to write from here is right
-- from the start. Assumes nothing.
use Rattle.std.proofs.Common.{◌-◌}
use Rattle.evf_records.specs.Steps.{run_past}
use Rattle.passes.specs.PlainV4.{cursor_at, PutsRun}
use Rattle.passes.proofs.plain_v4.put_moves.Given as goal

abbrev pub invariant-loop-taken : goal.invariant-loop-taken
invariant-loop-taken l =
    PutsRun l.file (cursor_at l.from l.fn.first) (run_past l.rule l.start l.fn.first) l.initial.out l.left
    (cursor_at l.at l.last) (run_past l.rule l.to l.last) l.out (l.left - l.taken)
