-- An entry more, and none. Assumes nothing.
use Rattle.std.proofs.Common.{List, ℕ, ap, arith}
use Rattle.moves.specs.declared.Position.{Position}
use Rattle.moves.specs.Moves.{moved_by}
use Rattle.playing.proofs.Rows.{row-next, row-over}
use Rattle.playing.proofs.play_row.Goals as goal

pub loop-event-preserved : goal.loop-event-preserved
loop-event-preserved c =
    row-next (moved_by c.args.board.now) c.args.row.now c.loop-event.event-index _ (omega arith) c.play_event-p.ensures
    c.loop-event.invariant

pub returns : goal.returns
returns c =
    let e = row-over (moved_by c.args.board.now) c.args.row.now c.loop-event.event-index (omega arith) c.loop-event.invariant in
    (ap (λ (s : Position × List ℕ). s.0) e, ap (λ (s : Position × List ℕ). s.1) e)
