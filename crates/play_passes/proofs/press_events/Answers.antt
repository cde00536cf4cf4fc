-- Of the state and the cells that the pass leaves, the buttons. Assumes nothing.
use Rattle.std.proofs.Common.{ℕ, List, [], ap, ◌∙◌}
use mathlib.Core.List.{foldl}
use Rattle.evf_events.specs.Events.{first_events}
use Rattle.buttons.specs.declared.Buttons.{Buttons}
use Rattle.buttons.specs.Pressing.{pressed}
use Rattle.play_passes.proofs.Played.{pressed_alone}
use Rattle.play_passes.proofs.press_events.Goals as goal

pub returns : goal.returns
returns c =
    let a = c.args in
    let events = first_events a.most a.file.now a.first in
    ap (λ (b : Buttons × List ℕ). b.0) c.pass_events.ensures ∙ pressed_alone [] events c.no_buttons.result []
    ∙ ap (λ (b : Buttons). foldl pressed b events) c.no_buttons.ensures
