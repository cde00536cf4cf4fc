-- `times::rounded_ms` meets its contract. The code has 1000.0 by its bit pattern, which is `thousand` once
-- `of_bits` is unfolded. Assumes nothing.
use Prim.Native.Nat.{ℕ}
use mathlib.Core.Path.{ap}
use lib.Ieee.{of_bits}
use Rattle.times.specs.Times.{s_to_ms}
use Rattle.times.proofs.rounded_ms.Goals as goal

pub returns : goal.returns
unfolding s_to_ms of_bits
returns c = ap (λ (n : ℕ). record { 0 = n }) c.whole_by.ensures
