-- The row above, the row below and the cell's own row, in the order of `neighbours`.
use mathlib.Core.Path.{refl}
use Rattle.flood.proofs.Rows.{around}
use Rattle.flood.proofs.Piles.{put_both}
use Rattle.flood.proofs.push_around.Goals as goal

pub returns : goal.returns
returns c =
    put_both _ _ _ _ _ _ (around _ _ _)
    (put_both _ _ _ _ _ _ refl c.push_above-above.ensures c.push_below-below.ensures)
    c.push_beside.ensures
