-- A GAME PLAYED THROUGH, as a plain machine (02, note 6). Its cells are covered, flagged or uncovered; each
-- event makes one move; the game is the row's moves from a board that is all covered. Cells are numbered row
-- by row from 0, and numbers on them are worked out from the mines alone; where a click falls (`is_on`,
-- `cell_under`) is said in moves/specs/Clicks.antt. Definitions only.
use Rattle.std.specs.Prelude.{ℕ, ◌*◌, Bool, true, false, cond, not, ◌&&◌, get_or, set}
use mathlib.Core.List.{List, foldl}
use Rattle.lists.specs.Lists.{each}
use Rattle.board.specs.Geometry.{neighbours}
use Rattle.flood.specs.Spread.{mem, some, reached}
use Rattle.flood.specs.Flood.{is_zero}
use Rattle.game.specs.declared.Event.{Event}
use Rattle.game.specs.declared.Event.TheVariants.{Mouse, State}
use Rattle.game.specs.declared.MouseKind.{MouseKind}
use Rattle.game.specs.declared.MouseKind.TheVariants.{Mv, Lc, Lr, Rc, Rr, Mc, Mr, Pf, Cc, L, R, M, Ub}
use Rattle.moves.specs.Clicks.{is_on, cell_under}

-- what a player sees of a cell, and how a game stands
pub data Cell : Type 0 where
  covered : Cell
  flagged : Cell
  uncovered : Cell

pub data Verdict : Type 0 where
  undecided : Verdict
  won : Verdict
  lost : Verdict

pub record Game : Type 0 where
  pub cells : List Cell
  pub verdict : Verdict

abbrev pub is_covered : Cell → Bool
is_covered covered = true
is_covered flagged = false
is_covered uncovered = false

abbrev pub is_uncovered : Cell → Bool
is_uncovered covered = false
is_uncovered flagged = false
is_uncovered uncovered = true

abbrev pub is_undecided : Verdict → Bool
is_undecided undecided = true
is_undecided won = false
is_undecided lost = false

-- cell j
abbrev pub cell_at : List Cell → ℕ → Cell
cell_at cells j = get_or cells j covered

-- a flag is set or lifted; an uncovered cell takes none
abbrev pub swapped : Cell → Cell
swapped covered = flagged
swapped flagged = covered
swapped uncovered = uncovered

-- rc and pf: the flag of cell k is set or lifted, and the verdict is not judged
abbrev pub marked : Game → ℕ → Game
marked g k = record { cells = set g.cells k (swapped (cell_at g.cells k)); verdict = g.verdict }

-- h rows of w cells, and where the mines are
module _ (mine : ℕ → Bool) (h w : ℕ) where
  -- what an lr on cell k uncovers: k itself, and from each zero that it uncovers the covered cells beside it,
  -- over and over. Flagged cells stay, and zeros that were uncovered before hand nothing on.
  unfoldable pub opened : List Cell → ℕ → List Bool
  opened cells k = reached (h * w) (neighbours h w) (is_zero mine h w) (λ j. is_covered (cell_at cells j)) k

  -- the cells then
  unfoldable pub uncovering : List Cell → ℕ → List Cell
  uncovering cells k = each (h * w) (λ j. cond (mem (opened cells k) j) uncovered (cell_at cells j))

  -- a mine that is uncovered, and a cell without one that is not
  abbrev pub hit : List Cell → ℕ → Bool
  hit cells j = mine j && is_uncovered (cell_at cells j)

  abbrev pub to_do : List Cell → ℕ → Bool
  to_do cells j = not (mine j) && not (is_uncovered (cell_at cells j))

  -- lost where a mine is uncovered, else won where every other cell is
  unfoldable pub judged : List Cell → Verdict
  judged cells =
      cond (some (hit cells) (h * w)) lost (cond (some (to_do cells) (h * w)) undecided won)

  -- lr: a covered cell is uncovered with all that this opens, and then the verdict is judged; a flagged or
  -- uncovered cell stays
  abbrev pub released : Game → ℕ → Game
  released g k =
      cond (is_covered (cell_at g.cells k))
      (record { cells = uncovering g.cells k; verdict = judged (uncovering g.cells k) })
      g

  -- what a kind does on cell k; those that are not named here do nothing
  abbrev pub acted : MouseKind → Game → ℕ → Game
  acted Lr g k = released g k
  acted Rc g k = marked g k
  acted Pf g k = marked g k
  acted Mv g k = g
  acted Lc g k = g
  acted Rr g k = g
  acted Mc g k = g
  acted Mr g k = g
  acted Cc g k = g
  acted L g k = g
  acted R g k = g
  acted M g k = g
  acted Ub g k = g

  module _ (pixels : ℕ) where
    -- ONE EVENT: nothing happens off the board, nor once the game is decided; game states change nothing
    abbrev pub move : Game → Event → Game
    move g (Mouse t kind x y) =
        cond (is_undecided g.verdict && is_on h w pixels x y) (acted kind g (cell_under h w pixels x y)) g
    move g (State t s) = g

    -- THE GAME AFTER A ROW OF EVENTS, from a board that is all covered
    unfoldable pub played : List Event → Game
    played row = foldl move (record { cells = each (h * w) (λ j. covered); verdict = undecided }) row
