-- `evf_video::parse` meets its contract: of what `parse_but_row` and `fill` say. Assumes nothing.
use Rattle.std.proofs.Common.{List, ℤ, length, refl}
use Rattle.game.specs.declared.Event.{Event}
use Rattle.evf_video.specs.Parsed.{Parses, parse_of}
use Rattle.evf_video.specs.Turns.{row_left_of, board_ready, row_by}
use Rattle.evf_video.proofs.Filled.{row-at-exit}
use Rattle.evf_video.proofs.Judging.{answer_number}
use Rattle.evf_video.proofs.parse.Goals as goal
use Prim.Native.Nat.{ℕ}

-- the promise, of what `parse_but_row` and `fill` say
follows : (s : List ℕ) (d : List ℤ) (ys : List Event)
    → Parses s d ys (row_left_of s d (length ys)).parsed (board_ready s d (length ys))
    (row_by s (row_left_of s d (length ys)).run ys)
unfolding row_left_of board_ready
follows s d ys =
    record {
      answer_is = refl;
      number_is = answer_number (parse_of s (length d) (length ys));
      board_is = refl;
      row_is = row-at-exit s (length d) ys;
    }

pub returns : goal.returns
returns c =
    rw (c.fill.ensures.1, c.parse_but_row-left.ensures.1, c.parse_but_row-left.ensures.0)
    (follows c.args.file.now c.args.board.now c.args.row.now)
