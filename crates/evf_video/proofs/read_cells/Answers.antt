-- `evf_video::read_cells` meets its contract: the part that is read is the board's place, and the board is
-- long enough. Assumes nothing.
use Rattle.std.proofs.Common.{◌*◌, ◌∙◌, length, arith}
use borrow.Author.Tests.{le-leb}
use Rattle.board.specs.Geometry.{board_after}
use Rattle.evf_video.proofs.read_cells.Goals as goal

pub returns : goal.returns
unfolding board_after
returns c =
    let a = c.args in
    c.read_board.ensures
    ∙ rw (c.part.ensures, le-leb (a.height * a.width) (length a.board.now) (omega arith))
