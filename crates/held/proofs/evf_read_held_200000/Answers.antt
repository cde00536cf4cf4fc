-- `held::evf_read_held_200000` meets its contract: the number of what `read::<200000>` answers. Assumes nothing.
use Rattle.held.proofs.Told.{read_told}
use Rattle.held.proofs.evf_read_held_200000.Goals as goal

pub returns : goal.returns
returns c = read_told 200000 _ _ _ _ _ c.read.ensures c.number.ensures
