-- `openings::evf_recount` meets its contract: both counts are small, so that one number holds them. Assumes
-- nothing.
use mathlib.Core.Path.{refl}
use native.Mathlib.Omega.{arith}
use Rattle.openings.specs.Recount.{host_number}
use Rattle.openings.proofs.Few.{counts_few, host}
use Rattle.openings.proofs.evf_recount.Goals as goal

pub overflow_add-result : goal.overflow_add-result
overflow_add-result c = omega (arith, (counts_few _ _ _ _ _ _ c.in-Counts.ensures.is).0)

pub overflow_mul-result : goal.overflow_mul-result
overflow_mul-result c = omega (arith, (counts_few _ _ _ _ _ _ c.in-Counts.ensures.is).0)

pub overflow_add-result-in-Counts : goal.overflow_add-result-in-Counts
overflow_add-result-in-Counts c = let s = counts_few _ _ _ _ _ _ c.in-Counts.ensures.is in omega (arith, s.0, s.1)

pub returns-in-Counts : goal.returns-in-Counts
unfolding host_number
returns-in-Counts c = host _ _ c.in-Counts.ensures refl

pub returns-in-Refused : goal.returns-in-Refused
unfolding host_number
returns-in-Refused c = host _ _ c.in-Refused.ensures refl
