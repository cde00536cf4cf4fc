use Rattle.std.proofs.Common.{arith}
use Rattle.passes.proofs.PlainRuns.{room_told}
use Rattle.passes.proofs.PlainV4.{put_more}
use Rattle.records_v4.proofs.MouseRecords.{mouse_here, mouse-read}
use Rattle.passes.proofs.plain_v4.put_moves.Goals as goal

pub overflow_add-at : goal.overflow_add-at
overflow_add-at c =
    omega (arith, (mouse_here c.is_mouse.ensures c.if-not-is_mouse.false).whole)

pub overflow_add-to : goal.overflow_add-to
overflow_add-to c =
    omega (arith, c.well_formed, room_told c.has_room.ensures c.if-not-has_room.false)

pub loop-taken-preserved : goal.loop-taken-preserved
loop-taken-preserved c =
    let here = mouse_here c.is_mouse.ensures c.if-not-is_mouse.false in
    let w = put_more _ _ _ _ (mouse-read here c.mouse_at-r.ensures) (omega (arith, c.if-last-gt-LATEST.false))
    (omega arith) (omega arith) _ _ _ _ _ _ _ _ _ _ (omega arith) (omega (arith, (overflow_add-to c).fits))
    c.loop-taken.invariant c.put_record.ensures in
    rw c.moved-last.ensures w
