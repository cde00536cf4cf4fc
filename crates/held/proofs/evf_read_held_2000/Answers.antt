-- `held::evf_read_held_2000` meets its contract: the number of what `read::<2000>` answers. Assumes nothing.
use Rattle.held.proofs.Told.{read_told}
use Rattle.held.proofs.evf_read_held_2000.Goals as goal

pub returns : goal.returns
returns c = read_told 2000 _ _ _ _ _ c.read.ensures c.number.ensures
