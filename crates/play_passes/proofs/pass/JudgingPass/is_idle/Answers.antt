-- An idle code does nothing to a badge. Assumes nothing.
use Rattle.play_passes.proofs.Along.{both_is}
use Rattle.play_passes.proofs.Judging.{idle_judged, judged-same}
use Rattle.play_passes.proofs.pass.JudgingPass.is_idle.Goals as goal

pub returns : goal.returns
returns c h board a version t x y =
    let code = c.args.code in
    both_is (judged-same board a.1 a.0 code x y
    (idle_judged board a.1 a.0 code x y c.is_idle.ensures h) version)
