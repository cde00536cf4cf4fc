use Rattle.records_v0_v3.proofs.Records.{told_old}
use Rattle.passes.proofs.Passes.{put_on, put_stopped, u32_has}
use Rattle.passes.proofs.put_events.Goals as goal

pub loop-kind-preserved : goal.loop-kind-preserved
loop-kind-preserved c =
    let t = told_old
    c.in-Mouse.is
    c.old_record.ensures in
    put_on c.loop-kind.invariant t.0 (u32_has t.1) _ _
    c.put_move-r.ensures _ _ _
    c.put_plain-on.ensures

pub returns : goal.returns
returns c = put_stopped c.loop-kind.invariant _ c.old_record.ensures c.in_default.not-Mouse
