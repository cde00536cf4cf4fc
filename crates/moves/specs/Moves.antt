-- What an event does by steps over lent cells, for the contracts of the code; no contract of `play` cites
-- this. Any cells are played on, also those that no game comes to. Definitions only.
use Rattle.std.specs.Prelude.{ℕ, ◌-◌, ◌*◌, Bool, true, false, cond, not, ◌&&◌, List, eqb, leb, ltb, ℤ, get_or, set}
use Rattle.board.specs.Geometry.{mine_at}
use Rattle.game.specs.declared.Event.{Event}
use Rattle.game.specs.declared.Event.TheVariants.{Mouse, State}
use Rattle.game.specs.declared.MouseKind.{MouseKind}
use Rattle.game.specs.declared.MouseKind.TheVariants.{Mv, Lc, Lr, Rc, Rr, Mc, Mr, Pf, Cc, L, R, M, Ub}
use Rattle.flood.specs.Spread.{size}
use Rattle.flood.specs.Flood.{taken, uncovered as uncoveredAt}
use Rattle.moves.specs.declared.Played.{Played}
use Rattle.moves.specs.declared.Played.TheVariants.{Undecided, Won, Lost, Refused}
use Rattle.moves.specs.declared.Position.{Position}
use Rattle.moves.specs.declared.Act.{Act}
use Rattle.moves.specs.declared.Act.TheVariants.{Uncover, Flag, Nothing}
use Rattle.moves.specs.Clicks.{is_on, cell_under}

-- the same position with other cells left to uncover, standing otherwise
abbrev pub standing : Position → (left : ℕ) → Played → Position
standing p left stands =
    record { height = p.height; width = p.width; pixels = p.pixels; left = left; stands = stands }

-- a game that is neither decided nor refused goes on
abbrev pub goes_on : Played → Bool
goes_on Undecided = true
goes_on Won = false
goes_on Lost = false
goes_on (Refused n) = false

-- the cell under a pixel; height × width, which is none, where there is none
unfoldable pub under_of : Position → (x y : ℕ) → ℕ
under_of p x y =
    cond (not (eqb p.pixels 0) && is_on p.height p.width p.pixels x y)
    (cell_under p.height p.width p.pixels x y)
    (p.height * p.width)

-- the cell that a click acts on; none where the game does not go on
unfoldable pub clicked_cell : Position → (x y : ℕ) → ℕ
clicked_cell p x y = cond (goes_on p.stands) (under_of p x y) (p.height * p.width)

-- what a kind does
abbrev pub act_of : MouseKind → Act
act_of Lr = Uncover
act_of Rc = Flag
act_of Pf = Flag
act_of Mv = Nothing
act_of Lc = Nothing
act_of Rr = Nothing
act_of Mc = Nothing
act_of Mr = Nothing
act_of Cc = Nothing
act_of L = Nothing
act_of R = Nothing
act_of M = Nothing
act_of Ub = Nothing

-- an entry whose flag is set or lifted; any but 0 and 1 stays
abbrev pub swapped_entry : ℕ → ℕ
swapped_entry n = cond (eqb n 0) 1 (cond (eqb n 1) 0 n)

-- the cells with the flag of cell k set or lifted, where the board has so many
unfoldable pub flagged_at : (n : ℕ) → List ℕ → ℕ → List ℕ
flagged_at n cells k = cond (ltb k n) (set cells k (swapped_entry (get_or cells k 0))) cells

-- the position once so many cells were uncovered, a mine among them or not
unfoldable pub judged_from : Position → (took : ℕ) → (mine : Bool) → Position
judged_from p took mine =
    cond (eqb took 0) p
    (cond mine (standing p p.left Lost)
    (cond (leb p.left took) (standing p 0 Won) (standing p (p.left - took) p.stands)))

-- what an act at a pixel leaves
abbrev pub position_acted : List ℤ → List ℕ → Position → Act → (x y : ℕ) → Position
position_acted board cells p Uncover x y =
    judged_from p (size (taken (mine_at board) p.height p.width cells (clicked_cell p x y)))
    (mine_at board (clicked_cell p x y))
position_acted board cells p Flag x y = p
position_acted board cells p Nothing x y = p

abbrev pub cells_acted : List ℤ → List ℕ → Position → Act → (x y : ℕ) → List ℕ
cells_acted board cells p Uncover x y =
    uncoveredAt (mine_at board) p.height p.width cells (clicked_cell p x y)
cells_acted board cells p Flag x y = flagged_at (p.height * p.width) cells (clicked_cell p x y)
cells_acted board cells p Nothing x y = cells

-- what an event leaves
abbrev pub position_after : List ℤ → List ℕ → Position → Event → Position
position_after board cells p (Mouse t kind x y) = position_acted board cells p (act_of kind) x y
position_after board cells p (State t s) = p

abbrev pub cells_after : List ℤ → List ℕ → Position → Event → List ℕ
cells_after board cells p (Mouse t kind x y) = cells_acted board cells p (act_of kind) x y
cells_after board cells p (State t s) = cells

-- both, for a row
abbrev pub moved_by : List ℤ → Position × List ℕ → Event → Position × List ℕ
moved_by board p e = (position_after board p.1 p.0 e, cells_after board p.1 p.0 e)
