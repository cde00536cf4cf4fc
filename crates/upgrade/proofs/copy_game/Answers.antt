-- `upgrade::copy_game` meets its contract: by what the survey saw. Assumes nothing.
use Rattle.upgrade.proofs.Copies.{game-judged, game-broken}
use Rattle.upgrade.proofs.copy_game.Goals as goal

pub returns-in-All : goal.returns-in-All
returns-in-All c =
    let a = c.args in
    game-judged a.file.now a.h a.board.now a.from a.copy.now a.rule _
    c.look_over.ensures
    c.in-All.is _ _ c.copy_judged.ensures

pub returns-in-Refused : goal.returns-in-Refused
returns-in-Refused c =
    let a = c.args in
    game-broken a.file.now a.h a.board.now a.from a.copy.now a.rule _
    c.look_over.ensures
    c.in-Refused.is _ _
