-- The buttons taken event by event, for the contracts of the pass; that it tells just the rows with a chord
-- is `pressed-is` of proofs/Places.antt. Definitions only.
use Rattle.std.specs.Prelude.{Bool, true, false, ◌||◌}
use Rattle.game.specs.declared.Event.{Event}
use Rattle.game.specs.declared.Event.TheVariants.{Mouse, State}
use Rattle.game.specs.declared.MouseKind.{MouseKind}
use Rattle.game.specs.declared.MouseKind.TheVariants.{Mv, Lc, Lr, Rc, Rr, Mc, Mr, Pf, Cc, L, R, M, Ub}
use Rattle.buttons.specs.declared.Buttons.{Buttons}

-- left, right, whether a chord was met
abbrev pub stand : Bool → Bool → Bool → Buttons
stand l r c = record { left = l; right = r; chord = c }

abbrev pub none_down : Buttons
none_down = stand false false false

-- what a kind does; most do nothing
abbrev pub pressed_kind : Buttons → MouseKind → Buttons
pressed_kind b Lc = stand true b.right (b.chord || b.right)
pressed_kind b Lr = stand false b.right b.chord
pressed_kind b Rc = stand b.left true (b.chord || b.left)
pressed_kind b Rr = stand b.left false b.chord
pressed_kind b Cc = stand b.left b.right true
pressed_kind b Mv = b
pressed_kind b Mc = b
pressed_kind b Mr = b
pressed_kind b Pf = b
pressed_kind b L = b
pressed_kind b R = b
pressed_kind b M = b
pressed_kind b Ub = b

abbrev pub pressed : Buttons → Event → Buttons
pressed b (Mouse t kind x y) = pressed_kind b kind
pressed b (State t s) = b
