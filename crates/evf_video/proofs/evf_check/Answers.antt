-- `evf_video::evf_check` meets its contract: the outcome of a judged file is its reading's.
-- Assumes nothing.
use mathlib.Core.Path.{sym, ap}
use Rattle.evf_video.specs.Reading.{reading_of, number_of}
use Rattle.evf_video.specs.Judging.{start_of, judged_of}
use Rattle.evf_video.proofs.Judging.{is_game, is_none, number-zero}
use Rattle.evf_video.proofs.evf_check.Goals as goal

pub returns-in-Read : goal.returns-in-Read
unfolding judged_of
returns-in-Read c =
    let s = c.args.file.now in
    number-zero (start_of s) (reading_of s) c.judge.result
    (is_game (start_of s) (reading_of s) c.judge.result c.judge.ensures c.in-Read.is)

pub returns-in-Refused : goal.returns-in-Refused
unfolding judged_of
returns-in-Refused c =
    let s = c.args.file.now in
    sym (ap number_of
    (is_none (start_of s) (reading_of s) c.judge.result _ c.judge.ensures
    c.in-Refused.is))
