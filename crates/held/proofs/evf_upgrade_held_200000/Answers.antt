-- `held::evf_upgrade_held_200000` meets its contract: the number of what `upgrade::<200000>` answers. Assumes
-- nothing.
use Rattle.held.proofs.Told.{upgrade-told}
use Rattle.held.proofs.evf_upgrade_held_200000.Goals as goal

pub returns : goal.returns
returns c = upgrade-told 200000 _ _ _ _ _ _ _ _ c.upgrade.ensures
    c.told.ensures
