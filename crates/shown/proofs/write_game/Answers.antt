-- `shown::write_game` meets its contract: the header, an empty line, and the board that was read.
-- Assumes nothing.
use native.Mathlib.Omega.{arith}
use mathlib.Core.Path.{◌≡◌}
use lib.ListN.{length}
use Rattle.byte_writer.proofs.Laws.{writes_then, writes_as}
use Rattle.shown.specs.Shown.{game_shown}
use Rattle.shown.proofs.Boards.{board_read_lem, board-text}
use Rattle.shown.proofs.write_game.Goals as goal

pub returns : goal.returns
unfolding game_shown
returns c =
    let a = c.args in
    let room : length a.board.now ≡ 65025 = omega arith in
    let is = board_read_lem a.file.now a.h a.place a.board.now c.requires.0 c.requires.1
    room
    c.part.ensures c.read_board.ensures in (
      writes_then (omega arith) c.write_header-at.ensures (λ l.
          writes_then l c.write_u8-at.ensures (λ l.
          writes_as
          (board-text a.file.now a.h a.place a.board.now c.requires.0 c.requires.1
          room is)
          c.write_board.ensures)),
      is,
    )
