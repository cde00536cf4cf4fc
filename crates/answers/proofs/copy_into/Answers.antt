-- `answers::copy_into` meets its contract: that of the call that it makes. Assumes nothing.
use Rattle.answers.proofs.copy_into.Goals as goal

pub returns-in-Upgrade : goal.returns-in-Upgrade
returns-in-Upgrade c =
    rw c.in-Upgrade.is c.upgrade_into.ensures

pub returns-in-Resave : goal.returns-in-Resave
returns-in-Resave c =
    rw c.in-Resave.is c.resave_into.ensures
