-- Reading ends: what has room for more bytes gets shorter.
use Rattle.std.proofs.Common.{length, ◌-◌, ◌≤◌}
use Rattle.whole_files.proofs.input.read_to_end.Given as goal

abbrev pub invariant-loop-done : goal.invariant-loop-done
invariant-loop-done g l = l.done ≤ length l.file

abbrev pub decreases-loop-done : goal.decreases-loop-done
decreases-loop-done g l = length l.initial.file - l.done
