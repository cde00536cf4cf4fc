-- `evf_header::read_front` meets its contract: the version picks the layout.
-- Assumes nothing.
use borrow.Author.Tests.{eq-eqb, ne_eqb}
use Rattle.evf_header.specs.Opening.{front_of}
use Rattle.evf_header.proofs.read_front.Goals as goal

pub returns-then-version-eq4 : goal.returns-then-version-eq4
unfolding front_of
returns-then-version-eq4 c = rw (eq-eqb _ _ c.if-version-eq4.true) c.read_new.ensures

pub returns : goal.returns
unfolding front_of
returns c = rw (ne_eqb _ _ c.if-version-eq4.false) c.read_old.ensures
