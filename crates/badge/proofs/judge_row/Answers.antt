-- An entry more, and none. Assumes nothing.
use Rattle.std.proofs.Common.{List, ℕ, ap, arith}
use Rattle.badge.specs.declared.Judging.{Judging}
use Rattle.badge.specs.Judging.{judged_by}
use Rattle.playing.proofs.Rows.{row-next, row-over}
use Rattle.badge.proofs.judge_row.Goals as goal

pub loop-event-preserved : goal.loop-event-preserved
loop-event-preserved c =
    row-next (judged_by c.args.board.now) c.args.row.now c.loop-event.event-index _ (omega arith) c.judge_event-s.ensures
    c.loop-event.invariant

pub returns : goal.returns
returns c =
    let e = row-over (judged_by c.args.board.now) c.args.row.now c.loop-event.event-index (omega arith) c.loop-event.invariant in
    (ap (λ (s : Judging × List ℕ). s.0) e, ap (λ (s : Judging × List ℕ). s.1) e)
