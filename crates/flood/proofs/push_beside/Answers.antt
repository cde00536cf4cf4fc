-- The cell before, and then the cell behind.
use Rattle.flood.proofs.Rows.{sides}
use Rattle.flood.proofs.Piles.{put_both}
use Rattle.flood.proofs.push_beside.Goals as goal

pub returns : goal.returns
returns c = put_both _ _ _ _ _ _ (sides _ _ _)
    c.push_before-next.ensures
    c.push_behind.ensures
