-- A code is judged alike in all versions, and the lent cells keep their number. Assumes nothing.
use Rattle.std.proofs.Common.{◌≡◌, refl}
use Rattle.times.specs.Times.{seconds_of}
use Rattle.game.specs.declared.Event.TheVariants.{Mouse}
use Rattle.game.specs.Kinds.{kind_of}
use Rattle.badge.specs.Judging.{judged_click, clicked_cells, judged_by}
use Rattle.play_passes.proofs.Along.{both_is, kept}
use Rattle.play_passes.proofs.Judging.{judged_long, idle_judged, judged-same}
use Rattle.play_passes.proofs.pass.JudgingPass.click.Goals as goal

pub returns-then-is_idle : goal.returns-then-is_idle
returns-then-is_idle c =
    let a = c.args in
    let board = a.board.now in
    let cells = a.cells.now in
    let same = idle_judged board cells a.self a.code a.x a.y c.is_idle.ensures c.if-is_idle.true in
    (λ version t. both_is (judged-same board cells a.self a.code a.x a.y same version), refl)

pub returns : goal.returns
returns c =
    let a = c.args in
    let board = a.board.now in
    let cells = a.cells.now in
    let judged : (c.judge_click.result ≡ judged_click board cells a.self (kind_of a.code) a.x a.y)
    × (c.judge_click.new.cells ≡ clicked_cells board cells a.self (kind_of a.code) a.x a.y) =
    rw (← c.from.ensures) c.judge_click.ensures in (
      λ version t. both_is (judged-same board cells a.self a.code a.x a.y judged version),
      kept (judged_by board) (judged_long board) (a.self, cells)
          (Mouse (seconds_of 0) (kind_of a.code) a.x a.y) judged.1 refl,
    )
