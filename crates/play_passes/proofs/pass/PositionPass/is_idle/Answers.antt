-- An idle code does nothing to a game. Assumes nothing.
use Rattle.std.proofs.Common.{refl, sym}
use Rattle.play_passes.proofs.Along.{both_is}
use Rattle.play_passes.proofs.Played.{acted_is}
use Rattle.play_passes.proofs.OldCodes.{idle_kind, played_same}
use Rattle.play_passes.proofs.pass.PositionPass.is_idle.Goals as goal

pub returns : goal.returns
returns c h board a version t x y =
    let code = c.args.code in
    let nothing = (idle_kind code c.is_idle.ensures h).0 in
    both_is (played_same board a.1 a.0 code x y
    (acted_is board a.1 a.0 x y (sym nothing) (refl, refl)) version)
