-- An event played, and the buttons beside it. Assumes nothing.
--     pressed_alone    the buttons, whatever the cells beside them
--     acted_is      what an act leaves, where another equals it
--     moved_long    the lent cells keep their number
use Rattle.std.proofs.Common.{◌≡◌, ℕ, List, [], ◌∷◌, length, ℤ, refl, ap, ◌∙◌}
use mathlib.Core.List.{foldl}
use Rattle.game.specs.declared.Event.{Event}
use Rattle.moves.specs.declared.Act.{Act}
use Rattle.moves.specs.declared.Position.{Position}
use Rattle.moves.specs.Moves.{position_acted, cells_acted, moved_by}
use Rattle.moves.proofs.Steps.{after-long}
use Rattle.buttons.specs.declared.Buttons.{Buttons}
use Rattle.buttons.specs.Pressing.{pressed}
use Rattle.play_passes.specs.Passing.{pressed_by}

pub pressed_alone : (board : List ℤ) (events : List Event) (b : Buttons) (cells : List ℕ)
    → (foldl (pressed_by board) (b, cells) events).0 ≡ foldl pressed b events
pressed_alone board [] b cells = refl
pressed_alone board (e ∷ events) b cells = pressed_alone board events (pressed b e) cells

pub acted_is : (board : List ℤ) (cells : List ℕ) (p : Position) (x y : ℕ) {act act' : Act} {r : Position}
    {d : List ℕ} → act ≡ act'
    → (r ≡ position_acted board cells p act x y) × (d ≡ cells_acted board cells p act x y)
    → (r ≡ position_acted board cells p act' x y) × (d ≡ cells_acted board cells p act' x y)
acted_is board cells p x y same e = (
  e.0 ∙ ap (λ (act : Act). position_acted board cells p act x y) same,
  e.1 ∙ ap (λ (act : Act). cells_acted board cells p act x y) same,
)

pub moved_long : (board : List ℤ) (a : Position × List ℕ) (e : Event)
    → length (moved_by board a e).1 ≡ length a.1
moved_long board a e = after-long board a.1 a.0 e
