-- A code acts alike in all versions, and the lent cells keep their number. Assumes nothing.
use Rattle.std.proofs.Common.{refl, ap, ◌∙◌}
use Rattle.times.specs.Times.{seconds_of}
use Rattle.game.specs.declared.Event.TheVariants.{Mouse}
use Rattle.game.specs.Kinds.{kind_of}
use Rattle.moves.specs.Moves.{act_of, moved_by}
use Rattle.play_passes.proofs.Along.{both_is, kept}
use Rattle.play_passes.proofs.Played.{acted_is, moved_long}
use Rattle.play_passes.proofs.OldCodes.{played_same}
use Rattle.play_passes.proofs.pass.PositionPass.click.Goals as goal

pub returns : goal.returns
returns c =
    let a = c.args in
    let board = a.board.now in
    let cells = a.cells.now in
    let acted = acted_is board cells a.self a.x a.y (c.act_of.ensures ∙ ap act_of c.from.ensures)
    c.act_at.ensures in (
      λ version t. both_is (played_same board cells a.self a.code a.x a.y acted version),
      kept (moved_by board) (moved_long board) (a.self, cells)
          (Mouse (seconds_of 0) (kind_of a.code) a.x a.y) acted.1 refl,
    )
