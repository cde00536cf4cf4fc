-- `answers::upgrade_into` meets its contract: the upgrade's own, its number told apart.
-- Assumes nothing.
use Rattle.answers.proofs.Telling.{tells}
use borrow.Author.Rules.{rules}
use Rattle.answers.proofs.upgrade_into.Goals as goal

pub returns : goal.returns
returns c = tells _ _ _ _ _ _ c.evf_upgrade-answer.ensures c.told_apart.ensures
    (search rules) (search rules)
