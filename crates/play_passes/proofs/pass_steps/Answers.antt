-- A step and a run more, and the end by each way out. Assumes nothing.
use Rattle.std.proofs.Common.{sym, ◌∙◌, arith}
use Rattle.play_passes.proofs.Along.{along-run, along-else, along-none}
use Rattle.play_passes.proofs.pass_steps.Goals as goal

pub loop-left-preserved : goal.loop-left-preserved
loop-left-preserved g c =
    let l = c.loop-left in
    let a = c.args in
    let run = c.pass_run-on.ensures in
    let event = c.event-p.ensures in (
      along-run (g.P.Pass.after a.board.now) a.file.now (l.p, l.cells) l.c l.left (omega arith)
          (sym c.step.ensures ∙ c.in-Got.is) event.0 run.0.right l.invariant.0,
      run.1 ∙ event.1 ∙ l.invariant.1,
    )

pub returns-in_default : goal.returns-in_default
returns-in_default g c = along-else _ _ _ _ _ _ (sym c.step.ensures) c.in_default.not-Got c.loop-left.invariant.0

pub returns : goal.returns
returns g c = along-none _ _ _ _ _ (omega arith) c.loop-left.invariant.0
