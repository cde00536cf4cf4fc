-- `listed::write_lines` meets its contract: by what the file was judged. Assumes nothing but what a slice
-- tells, that the file is bytes.
use native.Mathlib.Omega.{arith}
use Rattle.byte_writer.proofs.Laws.{writes_then, writes_as}
use Rattle.evf_video.specs.Judging.{start_of, judged_of}
use Rattle.evf_video.proofs.Judging.{is_game, is_none}
use Rattle.listed.proofs.Lines.{of-many, of-game, of_none}
use Rattle.listed.proofs.write_lines.Goals as goal

pub returns-in-Read : goal.returns-in-Read
unfolding judged_of
returns-in-Read c =
    let w = is_game (start_of c.args.file.now) _ c.judge-judged.result c.judge-judged.ensures c.in-Read.is in
    writes_as (of-many _ (λ i. (c.type_inv.file i).fits) _ w c.if-judged-gt-MOST_EVENTS.true)
    c.write_refusal.ensures

pub returns-in-Read-2 : goal.returns-in-Read-2
unfolding judged_of
returns-in-Read-2 c =
    let w = is_game (start_of c.args.file.now) _ c.judge-judged.result c.judge-judged.ensures c.in-Read.is in
    writes_as (of-game _ (λ i. (c.type_inv.file i).fits) _ w c.if-judged-gt-MOST_EVENTS.false)
    (writes_then (omega arith) c.write_game-at.ensures (λ m. c.write_events.ensures))

pub returns-in-Refused : goal.returns-in-Refused
unfolding judged_of
returns-in-Refused c =
    writes_as
    (of_none _ (λ i. (c.type_inv.file i).fits) _
    (is_none _ _ _ _ c.judge-judged.ensures c.in-Refused.is))
    c.write_refusal-in-Refused.ensures
