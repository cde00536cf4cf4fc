-- What one event of a game changed. Definitions only.
use Rattle.std.specs.Prelude.{ℕ, ◌-◌, ◌/◌, Bool, false, cond, not, List, eqb, ℤ, get_or}
use Rattle.game.specs.declared.Event.{Event}
use Rattle.game.specs.declared.Event.TheVariants.{Mouse, State}
use Rattle.moves.specs.declared.Played.{Played}
use Rattle.moves.specs.declared.Played.TheVariants.{Undecided, Won, Lost, Refused}
use Rattle.moves.specs.declared.Position.{Position}
use Rattle.moves.specs.Moves.{clicked_cell, position_after, cells_after}
use Rattle.played.specs.declared.Move.{Move}

-- the row or column of a pixel, 0 where cells have no pixels
unfoldable pub place_at : (pixel pixels : ℕ) → ℕ
place_at pixel pixels = cond (eqb pixels 0) 0 (pixel / pixels)

-- the cells uncovered on the way to a position: the mine, where that is lost; else as many as fewer are left
abbrev pub took_to : (was is : ℕ) → Played → ℕ
took_to was is Undecided = was - is
took_to was is Won = was - is
took_to was is Lost = 1
took_to was is (Refused n) = was - is

abbrev pub took_by : (from to : Position) → ℕ
took_by from to = took_to from.left to.left to.stands

-- the entry of cell k is another now
abbrev pub entry_changed : (before after : List ℕ) → ℕ → Bool
entry_changed before after k = not (eqb (get_or before k 0) (get_or after k 0))

-- an event changes the board just where it changes the entry of the cell that it acts on
unfoldable pub move_of : List ℤ → List ℕ → Position → Event → Move
move_of board cells p (Mouse t kind x y) =
    let e = Mouse t kind x y in
    record {
      position = position_after board cells p e;
      changed = entry_changed cells (cells_after board cells p e) (clicked_cell p x y);
      row = place_at y p.pixels;
      column = place_at x p.pixels;
      took = took_by p (position_after board cells p e);
    }
move_of board cells p (State t s) = record { position = p; changed = false; row = 0; column = 0; took = 0 }
