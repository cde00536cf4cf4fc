-- The buttons seen beside lent cells, as a pass has them. Definitions only.
use Rattle.std.specs.Prelude.{ℕ, List, ℤ}
use Rattle.game.specs.declared.Event.{Event}
use Rattle.buttons.specs.declared.Buttons.{Buttons}
use Rattle.buttons.specs.Pressing.{pressed}

abbrev pub pressed_by : List ℤ → Buttons × List ℕ → Event → Buttons × List ℕ
pressed_by board b e = (pressed b.0 e, b.1)
