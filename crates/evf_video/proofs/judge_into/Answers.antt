-- `evf_video::judge_into` meets its contract: the board is asked for first, then the row.
-- Assumes nothing but what a slice tells, that the file is bytes.
use mathlib.Core.Path.{ap, ◌∙◌}
use Rattle.evf_video.specs.Reading.{reading_of}
use Rattle.evf_video.specs.Parsed.{parse_of}
use Rattle.evf_video.specs.Judging.{judged, start_of, judged_of}
use Rattle.evf_video.proofs.Judging.{IsGame, is_game, is_none}
use Rattle.evf_video.proofs.Buffers.{board-short, row-short, both-fit, stays_none, sized, product_fits}
use Rattle.evf_video.proofs.judge_into.Goals as goal

pub overflow_mul-j : goal.overflow_mul-j
unfolding judged_of
overflow_mul-j c =
    let s = c.args.file.now in
    let w : IsGame (start_of c.args.file.now) (reading_of c.args.file.now) c.judge-j.result =
    is_game (start_of c.args.file.now) (reading_of c.args.file.now) c.judge-j.result c.judge-j.ensures c.in-Read.is in
    let z = sized s c.judge-j.result.header c.judge-j.result.board w.events
    (λ i. (c.type_inv.file i).fits) w.is in
    record { fits = product_fits _ _ z.height z.width }

pub returns-then-cells-j : goal.returns-then-cells-j
unfolding parse_of judged_of
returns-then-cells-j c =
    let a = c.args in
    let w : IsGame (start_of c.args.file.now) (reading_of c.args.file.now) c.judge-j.result =
    is_game (start_of c.args.file.now) (reading_of c.args.file.now) c.judge-j.result c.judge-j.ensures c.in-Read.is in
    c.unread.ensures ∙ ap (judged (start_of a.file.now))
    (board-short _ _ _ a.cells a.entries w c.if-cells-j.true)

pub returns-then-entries-j : goal.returns-then-entries-j
unfolding parse_of judged_of
returns-then-entries-j c =
    let a = c.args in
    let w : IsGame (start_of c.args.file.now) (reading_of c.args.file.now) c.judge-j.result =
    is_game (start_of c.args.file.now) (reading_of c.args.file.now) c.judge-j.result c.judge-j.ensures c.in-Read.is in
    c.unread-then-entries-j.ensures ∙ ap (judged (start_of a.file.now))
    (row-short _ _ _ a.cells a.entries w c.if-cells-j.false
    c.if-entries-j.true)

pub returns-else-entries-j : goal.returns-else-entries-j
unfolding parse_of judged_of
returns-else-entries-j c =
    let a = c.args in
    let w : IsGame (start_of c.args.file.now) (reading_of c.args.file.now) c.judge-j.result =
    is_game (start_of c.args.file.now) (reading_of c.args.file.now) c.judge-j.result c.judge-j.ensures c.in-Read.is in
    c.judge-j.ensures ∙ ap (judged (start_of a.file.now))
    (both-fit _ _ _ a.cells a.entries w c.if-cells-j.false c.if-entries-j.false)

pub returns-in-Refused : goal.returns-in-Refused
unfolding parse_of judged_of
returns-in-Refused c =
    let a = c.args in
    let s = a.file.now in
    c.judge-j.ensures
    ∙ ap (judged (start_of s))
    (stays_none (reading_of s) a.cells a.entries _
    (is_none (start_of s) (reading_of s) c.judge-j.result _ c.judge-j.ensures
    c.in-Refused.is))
