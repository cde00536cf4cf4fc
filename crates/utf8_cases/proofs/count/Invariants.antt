-- `utf8_cases::count` meets its contract: those before k are counted. Assumes nothing.
use mathlib.Core.Path.{◌≡◌}
use Rattle.utf8_cases.specs.Strings.{passing}
use Rattle.utf8_cases.proofs.count.Given as goal

abbrev pub invariant-loop-k : goal.invariant-loop-k
invariant-loop-k l = l.found ≡ passing l.n l.k
