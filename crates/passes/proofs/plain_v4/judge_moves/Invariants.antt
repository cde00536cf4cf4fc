-- `passes::plain_v4::judge_moves` meets its contract. The invariant: judged on from here, all comes to the
-- same as from the start. Assumes nothing.
use Rattle.std.proofs.Common.{◌-◌, ◌≤◌}
use Rattle.evf_records.specs.Steps.{seen_last}
use Rattle.passes.specs.PlainRuns.{seen_to}
use Rattle.passes.specs.PlainV4.{cursor_at, JudgesRun}
use Rattle.passes.proofs.plain_v4.judge_moves.Given as goal

abbrev pub invariant-loop-taken : goal.invariant-loop-taken
invariant-loop-taken l =
    JudgesRun l.file (cursor_at l.from (seen_last l.seen)) l.seen l.left (cursor_at l.at l.last)
    (seen_to l.seen l.last (l.at - l.from)) (l.left - l.taken)
    × (l.from ≤ l.at)
