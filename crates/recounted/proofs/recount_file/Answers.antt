-- `recounted::recount_file` meets its contract: by how the file was judged. Assumes nothing but what a slice
-- tells, that the file is bytes.
use Rattle.evf_video.specs.Judging.{start_of, judged_of}
use Rattle.evf_video.proofs.Judging.{is_game}
use Rattle.evf_video.proofs.Buffers.{sized}
use Rattle.recounted.proofs.Promised.{recount-game, recount-none}
use Rattle.recounted.proofs.recount_file.Goals as goal

pub recount_game-requires : goal.recount_game-requires
unfolding judged_of
recount_game-requires c =
    let file = c.args.file.now in
    let g = is_game (start_of file) _ c.judge-j.result c.judge-j.ensures
    c.in-Read.is in
    let z = sized file _ _ g.events (λ i. (c.type_inv.file i).fits) g.is in
    (z.height, z.width)

pub returns-in-Read : goal.returns-in-Read
returns-in-Read c =
    recount-game c.args.file.now _ c.judge-j.ensures
    c.in-Read.is c.recount_game.ensures

pub returns-in-Refused : goal.returns-in-Refused
returns-in-Refused c =
    recount-none c.args.file.now _ c.judge-j.ensures _
    c.in-Refused.is
