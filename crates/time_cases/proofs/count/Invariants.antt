-- `time_cases::count` meets its contract: none is missed so far. Assumes nothing.
use Rattle.std.proofs.Common.{◌≡◌, None}
use Rattle.time_cases.proofs.count.Given as goal

abbrev pub invariant-loop-n : goal.invariant-loop-n
invariant-loop-n l = l.found ≡ record { missed = 0; first = None }
