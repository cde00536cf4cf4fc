-- `evf_video::parse_but_row` meets its contract: what was judged fits the buffers, and a refusal leaves the
-- board. Assumes nothing but what a slice tells, that the file is bytes.
use mathlib.Core.Path.{sym, ap, ◌∙◌}
use lib.ListN.{length}
use Rattle.evf_video.specs.Reading.{Reading, reading_of}
use Rattle.evf_video.specs.Parsed.{parse_of, board_then}
use Rattle.evf_video.specs.Judging.{start_of}
use Rattle.evf_video.specs.Turns.{row_left_of, board_ready}
use Rattle.evf_video.proofs.Judging.{IsGame, is_game, is_none}
use Rattle.evf_video.proofs.Buffers.{fitted, sized, ready-game, ready-none}
use Rattle.evf_video.proofs.parse_but_row.Goals as goal

pub read_cells-requires : goal.read_cells-requires
unfolding parse_of
read_cells-requires c =
    let read : let a = c.args in IsGame (start_of a.file.now) (parse_of a.file.now (length a.board.now) a.n) c.judge_into-j.result = let a = c.args in is_game (start_of a.file.now) _ c.judge_into-j.result c.judge_into-j.ensures c.in-Read.is in
    let a = c.args in
    let j = c.judge_into-j.result in
    let w = read in
    let f = fitted (length a.board.now) a.n j.header j.board w.events
    (reading_of a.file.now) w.is in
    let z = sized a.file.now j.header j.board w.events
    (λ i. (c.type_inv.file i).fits) f.is in
    (z.inside, z.height, z.width, f.board_fits)

pub returns-in-Read : goal.returns-in-Read
unfolding row_left_of board_ready
returns-in-Read c =
    let read : let a = c.args in IsGame (start_of a.file.now) (parse_of a.file.now (length a.board.now) a.n) c.judge_into-j.result = let a = c.args in is_game (start_of a.file.now) _ c.judge_into-j.result c.judge_into-j.ensures c.in-Read.is in
    let a = c.args in
    let w = read in (
      rw c.answer.ensures
          (ready-game a.file.now _ c.judge_into-j.result w c.in-Read.is),
      c.read_cells.ensures
          ∙ sym (ap (λ (R : Reading). board_then a.file.now R a.board.now) w.is),
    )

pub returns-in-Refused : goal.returns-in-Refused
unfolding row_left_of board_ready
returns-in-Refused c =
    let a = c.args in
    let R = parse_of a.file.now (length a.board.now) a.n in
    let q = is_none (start_of a.file.now) R c.judge_into-j.result _ c.judge_into-j.ensures
    c.in-Refused.is in (
      rw c.answer-in-Refused.ensures
          (ready-none a.file.now R c.judge_into-j.result _ c.judge_into-j.ensures q),
      sym (ap (λ (x : Reading). board_then a.file.now x a.board.now) q),
    )
