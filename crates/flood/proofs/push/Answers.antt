-- One store, or none.
use native.Mathlib.Omega.{arith}
use borrow.Author.Tests.{eq-eqb, ne_eqb}
use Rattle.flood.specs.Pile.{pushed}
use Rattle.flood.proofs.Piles.{put_one}
use Rattle.flood.proofs.push.Goals as goal

pub returns-then-work-j-eq-COVERED : goal.returns-then-work-j-eq-COVERED
unfolding pushed
returns-then-work-j-eq-COVERED c = put_one _ _ _ (omega arith) (omega arith) (rw (eq-eqb _ _ c.if-work-j-eq-COVERED.true))

pub returns : goal.returns
unfolding pushed
returns c = put_one _ _ _ (omega arith) (omega arith) (rw (ne_eqb _ _ c.if-work-j-eq-COVERED.false))
