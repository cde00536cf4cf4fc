-- `evf_layout::write_front` meets its contract. Assumes nothing.
use borrow.Author.Tests.{eq-eqb, ne_eqb}
use Rattle.evf_layout.proofs.write_front.Goals as goal

pub returns-then-version-eq4 : goal.returns-then-version-eq4
returns-then-version-eq4 c = rw (eq-eqb _ _ c.if-version-eq4.true)
    c.write_front_4.ensures

pub returns : goal.returns
returns c = rw (ne_eqb _ _ c.if-version-eq4.false)
    c.write_front_3.ensures
