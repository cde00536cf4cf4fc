-- `board_text::write_board` meets its contract. The invariant: the first rows are written. Assumes nothing.
use Rattle.byte_writer.specs.Places.{Writes}
use Rattle.board_text.specs.Rows.{board_text}
use Rattle.board_text.proofs.write_board.Given as goal

abbrev pub invariant-loop-row : goal.invariant-loop-row
invariant-loop-row l =
    Writes l.initial.out l.out l.at (board_text l.board l.width l.row) l.to
