-- The events that the line tells are those of the copy, which reads as the mouse events alone (`kept_again`
-- of read_back/proofs/Resaved.antt). Assumes nothing.
use Prim.Native.Nat.{◌+◌, ◌-◌}
use mathlib.Core.Path.{◌≡◌}
use mathlib.Core.List.{List, [], ◌∷◌}
use native.Mathlib.Omega.{arith}
use lib.ListN.{length}
use Rattle.game.specs.declared.Event.{Event}
use Rattle.game.specs.declared.Event.TheVariants.{Mouse, State}
use Rattle.left_out.specs.LeftOut.{states_in}
use Rattle.read_back.specs.Saved.{mouse_events}

sorted : (es : List Event) → states_in es + length (mouse_events es) ≡ length es
sorted [] = omega arith
sorted (Mouse seconds kind x y ∷ es) = omega (arith, sorted es)
sorted (State seconds state ∷ es) = omega (arith, sorted es)

pub carried : (es : List Event) → length es - states_in es ≡ length (mouse_events es)
carried es = omega (arith, sorted es)
