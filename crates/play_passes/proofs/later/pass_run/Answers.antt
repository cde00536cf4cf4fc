-- A record more of the run. Assumes nothing.
use Rattle.std.proofs.Common.{◌+◌, ◌-◌, ap, ◌∙◌, arith}
use Rattle.play_passes.proofs.Runs.{next_here, fits, run_more}
use Rattle.records_v4.proofs.MouseRecords.{mouse-read}
use Rattle.game.specs.declared.Event.TheVariants.{Mouse}
use Rattle.game.specs.declared.MouseKind.{MouseKind}
use Rattle.play_passes.proofs.OldCodes.{kind_now}
use Rattle.times.specs.Times.{seconds_of}
use Rattle.play_passes.proofs.later.pass_run.Goals as goal

pub behind-c-requires : goal.behind-c-requires
behind-c-requires g c =
    let h = next_here _ _ c.is_next.ensures c.if-not-is_next.false in
    let m = mouse-read h.mouse c.mouse_at-r.ensures in
    (omega (arith, m.stands.inside), fits _ _ h _ m)

pub loop-taken-preserved : goal.loop-taken-preserved
loop-taken-preserved g c =
    let l = c.loop-taken in
    let a = c.args in
    let h = next_here _ _ c.is_next.ensures c.if-not-is_next.false in
    let click = c.click-p.ensures in
    let r = c.mouse_at-r.result in
    let t = seconds_of (l.c.ms.0 + r.wait) in
    let to = c.behind-c.result in
    let after = g.P.Pass.after a.board.now in (
      run_more _ _ h _ (mouse-read h.mouse c.mouse_at-r.ensures) after (l.p, l.cells)
          (a.most - l.taken) (a.most - (l.taken + 1)) (omega arith) c.behind-c.ensures
          (click.0 4 t ∙ ap (λ (k : MouseKind). after (l.p, l.cells) (Mouse t k to.x to.y)) (kind_now r.code))
          l.invariant.0,
      click.1 ∙ l.invariant.1,
    )
