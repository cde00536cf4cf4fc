-- `framed_games::event_of` meets its contract: by what the code says of a state.
-- Assumes nothing.
use mathlib.Core.Path.{sym, ap, ◌∙◌}
use Rattle.std.specs.Prelude.{Option}
use Rattle.game.specs.declared.MouseKind.{MouseKind}
use Rattle.game.specs.declared.GameState.{GameState}
use Rattle.game.specs.declared.Event.TheVariants.{Mouse}
use Rattle.framed_games.specs.Games.{event_for, event_of}
use Rattle.framed_games.proofs.event_of.Goals as goal

pub returns-in-Some : goal.returns-in-Some
unfolding event_of
returns-in-Some c =
    let a = c.args in
    ap (λ (f : Option GameState). event_for f a.code a.seconds a.x a.y)
    (sym c.in-Some.is ∙ c.from_code.ensures)

pub returns-in-None : goal.returns-in-None
unfolding event_of
returns-in-None c =
    let a = c.args in
    ap (λ (k : MouseKind). Mouse a.seconds k a.x a.y) c.from.ensures
    ∙ ap (λ (f : Option GameState). event_for f a.code a.seconds a.x a.y)
    (sym c.in-None.is ∙ c.from_code.ensures)
