-- A position that is refused or decided stays with each event, and so do its lent cells. Assumes nothing.
use mathlib.Core.Path.{◌≡◌, refl, sym, ◌∙◌, ap}
use mathlib.Core.Logic.{⊎_elim}
use mathlib.Core.Bool.{false}
use mathlib.Core.List.{List, [], ◌∷◌, foldl}
use Prim.Native.Nat.{ℕ, ◌*◌}
use native.Mathlib.Nat.{le_refl}
use lib.IntN.{ℤ}
use lib.ListN.{length}
use Rattle.board.specs.Geometry.{mine_at}
use Rattle.board.proofs.Places.{lt-or_ge}
use Rattle.flood.specs.Flood.{taken}
use Rattle.flood.specs.Spread.{size}
use Rattle.flood.proofs.Uncovered.{taken-short, taken-off, uncovers-nothing}
use Rattle.game.specs.declared.Event.{Event}
use Rattle.game.specs.declared.Event.TheVariants.{Mouse, State}
use Rattle.moves.specs.declared.Act.{Act}
use Rattle.moves.specs.declared.Act.TheVariants.{Uncover, Flag, Nothing}
use Rattle.moves.specs.declared.Position.{Position}
use Rattle.moves.specs.Moves.{goes_on, clicked_cell, act_of, position_acted, cells_acted}
use Rattle.moves.specs.Moves.{moved_by}
use Rattle.moves.proofs.Judging.{judged-none}
use Rattle.moves.proofs.Steps.{flagged-off}

module _ (board : List ℤ) (cells : List ℕ) (p : Position) (over : goes_on p.stands ≡ false) where
  clicked-none : (x y : ℕ) → clicked_cell p x y ≡ p.height * p.width
  unfolding clicked_cell
  clicked-none x y = rw over

  takes_none : taken (mine_at board) p.height p.width cells (p.height * p.width) ≡ []
  takes_none =
      ⊎_elim
      (taken-short (mine_at board) p.height p.width cells (p.height * p.width))
      (λ l. taken-off (mine_at board) p.height p.width cells (p.height * p.width) l
      (le_refl (p.height * p.width)))
      (lt-or_ge (length cells) (p.height * p.width))

  act-rests : (act : Act) (x y : ℕ)
      → (position_acted board cells p act x y ≡ p) × (cells_acted board cells p act x y ≡ cells)
  act-rests Uncover x y =
      let u = uncovers-nothing (mine_at board) p.height p.width cells _ takes_none in
      rw (clicked-none x y) (
        judged-none p
            (size (taken (mine_at board) p.height p.width cells (p.height * p.width)))
            (mine_at board (p.height * p.width)) (sym u.many),
        sym u.is,
      )
  act-rests Flag x y = (
    refl,
    rw (clicked-none x y) (flagged-off (p.height * p.width) cells _ (le_refl (p.height * p.width))),
  )
  act-rests Nothing x y = (refl, refl)

  pub event-rests : (e : Event) → moved_by board (p, cells) e ≡ (p, cells)
  event-rests (Mouse t kind x y) =
      let r = act-rests (act_of kind) x y in
      ap (λ (q : Position). (q, cells_acted board cells p (act_of kind) x y)) r.0
      ∙ ap (λ (c : List ℕ). (p, c)) r.1
  event-rests (State t s) = refl

  pub row-rests : (row : List Event) → foldl (moved_by board) (p, cells) row ≡ (p, cells)
  row-rests [] = refl
  row-rests (e ∷ row) = ap (λ (q : Position × List ℕ). foldl (moved_by board) q row) (event-rests e)
      ∙ row-rests row
