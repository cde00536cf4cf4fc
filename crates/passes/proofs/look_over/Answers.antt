use Rattle.records_v0_v3.proofs.Records.{told_old}
use Rattle.passes.proofs.Passes.{looked-on, looked, looked-broken, u32_has}
use Rattle.passes.proofs.look_over.Goals as goal

pub loop-kind-preserved : goal.loop-kind-preserved
loop-kind-preserved c =
    let t = told_old c.in-Mouse.is
    c.old_record.ensures in
    looked-on c.loop-kind.invariant t.0 (u32_has t.1) _
    c.judge_move.ensures _ _ c.look_plain-on.ensures

pub returns-in-End : goal.returns-in-End
returns-in-End c = looked c.loop-kind.invariant
    (told_old c.in-End.is c.old_record.ensures)

pub returns-in-Refused : goal.returns-in-Refused
returns-in-Refused c = looked-broken c.loop-kind.invariant
    (told_old c.in-Refused.is c.old_record.ensures)
