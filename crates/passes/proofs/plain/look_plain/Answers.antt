use Rattle.std.proofs.Common.{sym, ◌∙◌, arith}
use Rattle.records_v0_v3.proofs.Records.{told_old}
use Rattle.passes.proofs.Passes.{u32_has}
use Rattle.passes.proofs.PlainRuns.{look-start, look-plain}
use Rattle.passes.proofs.plain.look_plain.Goals as goal

pub loop-kind-init : goal.loop-kind-init
loop-kind-init c = (
  rw c.last-last.ensures (look-start _ _ _ _ (omega (arith, c.well_formed)) (omega (arith, c.well_formed))),
  omega arith,
)

pub loop-kind-preserved : goal.loop-kind-preserved
loop-kind-preserved c =
    let t = told_old c.in-Mouse.is
    c.old_record.ensures in (
      look-plain _ _ _ _ (sym c.begun_4.ensures ∙ c.if-not-begun_4.false) _ _ _
          _ _ _ _ (u32_has t.1)
          (sym c.is_plain.ensures ∙ c.if-not-is_plain.false) c.loop-kind.invariant.0 t.0,
      omega (arith, c.loop-kind.invariant.1),
    )
