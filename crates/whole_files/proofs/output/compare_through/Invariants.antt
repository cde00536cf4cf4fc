-- Reading ends: what is left of the bytes gets shorter, and is always what is left of all of them.
use Rattle.std.proofs.Common.{length}
use Rattle.whole_files.specs.Files.{IsRest}
use Rattle.whole_files.proofs.output.compare_through.Given as goal

abbrev pub invariant-loop-n : goal.invariant-loop-n
invariant-loop-n g l = IsRest l.rest l.bytes

abbrev pub decreases-loop-n : goal.decreases-loop-n
decreases-loop-n g l = length l.rest
