use Rattle.std.proofs.Common.{sym, ◌∙◌, arith}
use Rattle.records_v0_v3.proofs.Records.{told_old}
use Rattle.passes.proofs.Passes.{u32_has}
use Rattle.passes.proofs.PlainRuns.{room_told, put-plain}
use Rattle.passes.proofs.plain.put_run.Goals as goal

pub overflow_add-to : goal.overflow_add-to
overflow_add-to c =
    omega (arith, c.well_formed, room_told c.has_room.ensures c.loop-kind-test.true)

pub loop-kind-preserved : goal.loop-kind-preserved
loop-kind-preserved c =
    let t = told_old c.in-Mouse.is c.old_record.ensures in
    put-plain _ _ _ _ _ _ _ _ _ _ _ _ _ _ (u32_has t.1)
    (sym c.is_plain.ensures ∙ c.if-not-is_plain.false) (omega (arith, (overflow_add-to c).fits))
    c.loop-kind.invariant t.0 _
    c.record_of.ensures _ c.put_record.ensures
