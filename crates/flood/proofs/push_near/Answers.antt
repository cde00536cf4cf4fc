-- The cell itself, and then those beside it.
use Rattle.flood.proofs.Rows.{with_itself}
use Rattle.flood.proofs.Piles.{put_both}
use Rattle.flood.proofs.push_near.Goals as goal

pub returns : goal.returns
returns c = put_both _ _ _ _ _ _ (with_itself _ _ _)
    c.push-next.ensures
    c.push_beside.ensures
