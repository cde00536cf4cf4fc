-- A test for each case in which nothing is taken. Assumes nothing.
use native.Mathlib.Omega.{arith}
use Rattle.flood.proofs.Uncovered.{taken-short, taken-off, taken_not, uncovers-nothing}
use Rattle.flood.proofs.uncover.Goals as goal

pub returns-then-work-n : goal.returns-then-work-n
returns-then-work-n c = uncovers-nothing _ _ _ _ _ (taken-short _ _ _ _ _ (omega arith))

pub returns-then-n-k : goal.returns-then-n-k
returns-then-n-k c = uncovers-nothing _ _ _ _ _ (taken-off _ _ _ _ _ (omega arith) (omega arith))

pub returns : goal.returns
returns c = uncovers-nothing _ _ _ _ _ (taken_not _ _ _ _ _ (omega arith) (omega arith) c.if-work-k-eq-COVERED.false)
