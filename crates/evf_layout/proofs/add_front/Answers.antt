-- `evf_layout::add_front` meets its contract. Assumes nothing.
use Rattle.layout_v3.specs.Version3.{front3}
use Rattle.layout_v4.specs.Version4.{front4}
use Rattle.evf_layout.proofs.Versions.{as-4, as-3}
use Rattle.evf_layout.proofs.add_front.Goals as goal

pub returns-then-version-eq4 : goal.returns-then-version-eq4
returns-then-version-eq4 c = as-4 front4 front3 _ c.if-version-eq4.true c.add_front_4.ensures

pub returns : goal.returns
returns c = as-3 front4 front3 _ c.if-version-eq4.false c.add_front_3.ensures
