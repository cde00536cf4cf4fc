-- `evf_video::parse_board` meets its contract: that of `parse_but_row`, without the run.
-- Assumes nothing.
use mathlib.Core.Path.{ap}
use Rattle.evf_video.specs.declared.RowLeft.{RowLeft}
use Rattle.evf_video.specs.Turns.{row_left_of}
use Rattle.evf_video.proofs.parse_board.Goals as goal

pub returns : goal.returns
unfolding row_left_of
returns c = let p = c.parse_but_row.ensures in
    (ap (λ (r : RowLeft). r.parsed) p.0, p.1)
