-- `recounted::recount_lent` meets its contract: the arrays hold every board, and the cells behind the game's
-- do not matter. Assumes nothing.
use native.Mathlib.Omega.{arith}
use mathlib.Core.Path.{◌≡◌}
use lib.ListN.{length}
use Rattle.shown.proofs.Boards.{board_read_lem}
use Rattle.recounted.specs.Recounting.{most_cells}
use Rattle.recounted.proofs.Held.{recount-held}
use Rattle.recounted.proofs.recount_lent.Goals as goal

pub returns-in-Counts : goal.returns-in-Counts
returns-in-Counts c =
    let a = c.args in
    let room : length a.board.now ≡ most_cells = omega arith in
    let board = board_read_lem a.file.now a.h a.place a.board.now c.requires.0 c.requires.1 room
    c.part.ensures c.read_board.ensures in
    recount-held a.file.now a.h a.place c.requires.0 c.requires.1 a.board.now room _ _ _
    board (omega arith) c.in-Counts.ensures.is

pub returns-in-Refused : goal.returns-in-Refused
returns-in-Refused c =
    let a = c.args in
    let room : length a.board.now ≡ most_cells = omega arith in
    let board = board_read_lem a.file.now a.h a.place a.board.now c.requires.0 c.requires.1 room
    c.part.ensures c.read_board.ensures in
    recount-held a.file.now a.h a.place c.requires.0 c.requires.1 a.board.now room _ _ _
    board (omega arith) c.in-Refused.ensures.is
