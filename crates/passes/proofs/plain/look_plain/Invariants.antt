-- `plain::look_plain` meets its contract. The invariant: judged on from here, all comes to the same as from
-- the start; and there are no more bytes to write than were read. The measure is the bytes left. Assumes
-- nothing.
use Rattle.std.proofs.Common.{◌-◌, ◌≤◌, length}
use Rattle.passes.specs.PlainRuns.{LooksOn, seen_to}
use Rattle.passes.proofs.plain.look_plain.Given as goal

abbrev pub invariant-loop-kind : goal.invariant-loop-kind
invariant-loop-kind l =
    LooksOn l.file l.version l.from l.seen l.at (seen_to l.seen l.last l.n) × (l.n ≤ l.at)

abbrev pub decreases-loop-kind : goal.decreases-loop-kind
decreases-loop-kind l = length l.file - l.at
