-- `held::evf_upgrade_held_2000` meets its contract: the number of what `upgrade::<2000>` answers. Assumes
-- nothing.
use Rattle.held.proofs.Told.{upgrade-told}
use Rattle.held.proofs.evf_upgrade_held_2000.Goals as goal

pub returns : goal.returns
returns c = upgrade-told 2000 _ _ _ _ _ _ _ _ c.upgrade.ensures
    c.told.ensures
