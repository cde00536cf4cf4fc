-- By how the file was judged. Assumes nothing.
use mathlib.Core.Path.{refl}
use Rattle.file_play.proofs.Files.{starts-game, starts_none}
use Rattle.file_play.proofs.start_file.Goals as goal

pub returns-in-Read : goal.returns-in-Read
returns-in-Read c =
    let a = c.args in
    starts-game a.file.now a.events a.board.now a.cells.now c.judge-j.result
    c.judge-j.ensures c.in-Read.is c.ready_game.ensures

pub returns-in-Refused : goal.returns-in-Refused
returns-in-Refused c =
    let a = c.args in
    starts_none a.file.now a.events a.board.now a.cells.now c.judge-j.result
    c.judge-j.ensures _ c.in-Refused.is c.refused.ensures refl refl
