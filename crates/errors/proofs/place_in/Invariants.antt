-- `errors::place_in` meets its contract: no number that was passed is the one. Assumes nothing.
use Prim.Native.Nat.{◌+◌}
use mathlib.Core.Path.{◌≡◌}
use lib.ListN.{drop}
use Rattle.errors.specs.Places.{place_in}
use Rattle.errors.proofs.place_in.Given as goal

abbrev pub invariant-loop-i : goal.invariant-loop-i
invariant-loop-i l = place_in l.numbers l.n ≡ l.i + place_in (drop l.i l.numbers) l.n
