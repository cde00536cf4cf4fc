use Rattle.std.proofs.Common.{◌≡◌, ◌+◌, ◌-◌, arith}
use Rattle.passes.proofs.PlainV4.{judged_start, judge-more}
use Rattle.records_v4.proofs.MouseRecords.{mouse_here, mouse-read}
use Rattle.passes.proofs.plain_v4.judge_moves.Goals as goal

pub loop-taken-init : goal.loop-taken-init
loop-taken-init c =
    let a = c.args in
    let none : a.from - a.from ≡ 0 = omega arith in
    let all : a.left - 0 ≡ a.left = omega arith in (
      rw (none, all)
          (judged_start _ _ _ _ (omega (arith, c.well_formed)) (omega (arith, c.well_formed)) _ c.last-last.ensures),
      omega arith,
    )

pub overflow_add-at : goal.overflow_add-at
overflow_add-at c =
    omega (arith, (mouse_here c.is_mouse.ensures c.if-not-is_mouse.false).whole)

pub loop-taken-preserved : goal.loop-taken-preserved
loop-taken-preserved c =
    let here = mouse_here c.is_mouse.ensures c.if-not-is_mouse.false in
    let a = c.args in
    let t = c.loop-taken in
    let past = t.invariant.1 in
    let w = judge-more _ _ _ _ (mouse-read here c.mouse_at.ensures) (omega (arith, c.if-last-gt-LATEST.false))
    _ _ _ c.requires _ (a.left - (t.taken + 1)) _ (t.at + 6 - a.from) (omega arith) (omega (arith, past))
    t.invariant.0 in
    (rw c.moved-last.ensures w, omega (arith, past))
