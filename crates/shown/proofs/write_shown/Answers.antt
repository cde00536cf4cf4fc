-- `shown::write_shown` meets its contract: a file that is read is shown as its game, and no other. Assumes
-- nothing but what a slice tells, that the file is bytes.
use Rattle.evf_video.specs.Judging.{start_of, judged_of}
use Rattle.evf_video.proofs.Judging.{is_game, is_none}
use Rattle.evf_video.proofs.Buffers.{sized}
use Rattle.shown.proofs.Promised.{shows-game, shows-none}
use Rattle.shown.proofs.write_shown.Goals as goal

pub write_game-to-requires : goal.write_game-to-requires
unfolding judged_of
write_game-to-requires c =
    let file = c.args.file.now in
    let w = is_game (start_of file) _ c.judge-j.result c.judge-j.ensures c.in-Read.is in
    let z = sized file _ _ w.events (λ i. (c.type_inv.file i).fits) w.is in
    (z.height, z.width)

pub returns-in-Read : goal.returns-in-Read
unfolding judged_of
returns-in-Read c =
    let a = c.args in
    let file = a.file.now in
    let w = is_game (start_of file) _ c.judge-j.result c.judge-j.ensures c.in-Read.is in
    shows-game file a.board.now a.out.now _ _ w.events
    (λ i. (c.type_inv.file i).fits) w.is w.many c.write_game-to.ensures.0
    c.write_game-to.ensures.1

pub returns-in-Refused : goal.returns-in-Refused
unfolding judged_of
returns-in-Refused c =
    let a = c.args in
    shows-none a.file.now a.board.now a.out.now _
    (is_none (start_of a.file.now) _ c.judge-j.result _ c.judge-j.ensures
    c.in-Refused.is)
