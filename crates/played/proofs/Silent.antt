-- THE LINES TELL EVERY CHANGE: an event has a line just where it changes the board, whatever stood there.
-- Assumes nothing.
--     silent    an event without a line leaves the position and every lent cell as they were
--     tells     an event with a line leaves other cells
use Prim.Native.Nat.{ℕ, zero, suc, ◌*◌}
use mathlib.Core.Path.{◌≡◌, refl, sym, ap, ◌∙◌}
use mathlib.Core.Logic.{⊎_elim}
use mathlib.Core.Bool.{Bool, true, false, cond, false≢true}
use mathlib.Core.List.{List, [], ◌∷◌}
use native.Mathlib.Omega.{arith}
use lib.IntN.{ℤ}
use lib.ListN.{length, get_or, set}
use borrow.Author.Tests.{eqb-true, eqb-false, not-true, not-false}
use Rattle.lists.proofs.Each.{getD-each}
use Rattle.board.specs.Geometry.{mine_at}
use Rattle.board.proofs.Places.{lt-or_ge}
use Rattle.flood.specs.Spread.{mem}
use Rattle.flood.specs.Flood.{taken, uncovered}
use Rattle.flood.proofs.Sets.{same_or_not}
use Rattle.flood.proofs.Uncovered.{taken-short, taken-off, taken_not, uncovers-nothing}
use Rattle.flood.proofs.Taken.{taken-itself}
use Rattle.game.specs.declared.Event.{Event}
use Rattle.game.specs.declared.Event.TheVariants.{Mouse, State}
use Rattle.moves.specs.declared.Position.{Position}
use Rattle.moves.specs.declared.Act.{Act}
use Rattle.moves.specs.declared.Act.TheVariants.{Uncover, Flag, Nothing}
use Rattle.moves.specs.Moves.{clicked_cell, act_of, position_acted, cells_acted, cells_after, moved_by}
use Rattle.moves.proofs.Judging.{judged-none}
use Rattle.moves.proofs.Steps.{flagged-at, flagged-off}
use Rattle.played.specs.Changes.{move_of}

-- a store that leaves its own entry leaves all
kept : (l : List ℕ) (k v : ℕ) → get_or l k 0 ≡ get_or (set l k v) k 0 → set l k v ≡ l
kept [] k v e = refl
kept (x ∷ l) zero v e = ap (λ (t : ℕ). t ∷ l) (sym e)
kept (x ∷ l) (suc k) v e = ap (λ (t : List ℕ). x ∷ t) (kept l k v e)

-- a cell whose entry stays was not uncovered
none-taken : (mine : ℕ → Bool) (h w : ℕ) (cells : List ℕ) (k : ℕ)
    → get_or cells k 0 ≡ get_or (uncovered mine h w cells k) k 0 → taken mine h w cells k ≡ []
unfolding uncovered
none-taken mine h w cells k e =
    ⊎_elim
    (λ short. taken-short mine h w cells k short)
    (λ long. ⊎_elim
    (λ within. ⊎_elim
    (λ free.
    let t = taken-itself mine h w cells k (record { long = long; within = within; free = free }) in
    let two : get_or (uncovered mine h w cells k) k 0 ≡ 2 =
    getD-each (length cells) k (λ j. cond (mem (taken mine h w cells k) j) 2 (get_or cells j 0)) 0 (omega arith)
    ∙ ap (λ (b : Bool). cond b 2 (get_or cells k 0)) t in
    absurd (omega arith))
    (λ not-Free. taken_not mine h w cells k long within not-Free)
    (same_or_not (get_or cells k 0) 0))
    (λ off. taken-off mine h w cells k long off)
    (lt-or_ge k (h * w)))
    (lt-or_ge (length cells) (h * w))

module _ (board : List ℤ) (cells : List ℕ) (p : Position) where
  act-silent : (act : Act) (x y : ℕ)
      → get_or cells (clicked_cell p x y) 0 ≡ get_or (cells_acted board cells p act x y) (clicked_cell p x y) 0
      → (position_acted board cells p act x y ≡ p) × (cells_acted board cells p act x y ≡ cells)
  act-silent Uncover x y e =
      let none = none-taken (mine_at board) p.height p.width cells (clicked_cell p x y) e in
      let u = uncovers-nothing (mine_at board) p.height p.width cells (clicked_cell p x y) none in
      (judged-none p _ (mine_at board (clicked_cell p x y)) (sym u.many), sym u.is)
  act-silent Flag x y e = (
    refl,
    ⊎_elim
        (λ on.
        let is = flagged-at (p.height * p.width) cells (clicked_cell p x y) on in
        is ∙ kept cells (clicked_cell p x y) _ (e ∙ ap (λ (l : List ℕ). get_or l (clicked_cell p x y) 0) is))
        (λ off. flagged-off (p.height * p.width) cells (clicked_cell p x y) off)
        (lt-or_ge (clicked_cell p x y) (p.height * p.width)),
  )
  act-silent Nothing x y e = (refl, refl)

  pub silent : (e : Event) → (move_of board cells p e).changed ≡ false → moved_by board (p, cells) e ≡ (p, cells)
  unfolding move_of
  silent (Mouse t kind x y) q =
      let r = act-silent (act_of kind) x y (eqb-true _ _ (not-false _ q)) in
      ap (λ (n : Position). (n, cells_acted board cells p (act_of kind) x y)) r.0
      ∙ ap (λ (c : List ℕ). (p, c)) r.1
  silent (State t s) q = refl

  pub tells : (e : Event) → (move_of board cells p e).changed ≡ true → cells_after board cells p e ≡ cells → ⊥
  unfolding move_of
  tells (Mouse t kind x y) q same =
      eqb-false _ _ (not-true _ q) (sym (ap (λ (l : List ℕ). get_or l (clicked_cell p x y) 0) same))
  tells (State t s) q same = false≢true q
