-- What each step leaves, from what its callees say. Assumes nothing.
--     released      an lr: the flood's count, judged
--     flagged-at, flagged-off    a flag
--     after-long    the lent cells keep their number
use mathlib.Core.Path.{◌≡◌, refl, ◌∙◌, ap}
use mathlib.Core.Logic.{⊎_elim}
use mathlib.Core.Bool.{Bool}
use mathlib.Core.List.{List}
use Prim.Native.Nat.{ℕ, ◌*◌, ◌<◌, ◌≤◌}
use lib.IntN.{ℤ}
use lib.ListN.{length, get_or, set, length-set}
use borrow.Author.Tests.{lt-ltb, le-ltb}
use Rattle.board.specs.Geometry.{mine_at}
use Rattle.flood.specs.Spread.{size}
use Rattle.board.proofs.Places.{lt-or_ge}
use Rattle.flood.specs.Flood.{taken, uncovered, Uncovers}
use Rattle.flood.proofs.Uncovered.{length-uncovered}
use Rattle.game.specs.declared.Event.{Event}
use Rattle.game.specs.declared.Event.TheVariants.{Mouse, State}
use Rattle.moves.specs.declared.Position.{Position}
use Rattle.moves.specs.declared.Act.{Act}
use Rattle.moves.specs.declared.Act.TheVariants.{Uncover, Flag, Nothing}
use Rattle.moves.specs.Moves.{clicked_cell, act_of, swapped_entry, flagged_at, judged_from, position_acted}
use Rattle.moves.specs.Moves.{cells_acted, cells_after}

module _ (board : List ℤ) (cells : List ℕ) (p : Position) (x y : ℕ) where
  pub released : (k took : ℕ) (m : Bool) (r : Position) (after : List ℕ) → k ≡ clicked_cell p x y
      → Uncovers (mine_at board) p.height p.width cells k after took → m ≡ mine_at board k
      → r ≡ judged_from p took m
      → (r ≡ position_acted board cells p Uncover x y) × (after ≡ cells_acted board cells p Uncover x y)
  released k took m r after e u f g = (
    g ∙ ap (λ (t : ℕ). judged_from p t m) u.many
        ∙ ap (judged_from p (size (taken (mine_at board) p.height p.width cells k))) f
        ∙ ap (λ (i : ℕ). judged_from p (size (taken (mine_at board) p.height p.width cells i))
        (mine_at board i)) e,
    u.is ∙ ap (uncovered (mine_at board) p.height p.width cells) e,
  )

module _ (n : ℕ) (cells : List ℕ) (k : ℕ) where
  pub flagged-at : k < n → flagged_at n cells k ≡ set cells k (swapped_entry (get_or cells k 0))
  unfolding flagged_at
  flagged-at l = rw (lt-ltb k n l)

  pub flagged-off : n ≤ k → flagged_at n cells k ≡ cells
  unfolding flagged_at
  flagged-off l = rw (le-ltb k n l)

  flagged-long : length (flagged_at n cells k) ≡ length cells
  flagged-long =
      ⊎_elim
      (λ l. ap length (flagged-at l) ∙ length-set cells k (swapped_entry (get_or cells k 0)))
      (λ l. ap length (flagged-off l))
      (lt-or_ge k n)

module _ (board : List ℤ) (cells : List ℕ) (p : Position) where
  acted-long : (act : Act) (x y : ℕ) → length (cells_acted board cells p act x y) ≡ length cells
  acted-long Uncover x y = length-uncovered (mine_at board) p.height p.width cells (clicked_cell p x y)
  acted-long Flag x y = flagged-long (p.height * p.width) cells (clicked_cell p x y)
  acted-long Nothing x y = refl

  pub after-long : (e : Event) → length (cells_after board cells p e) ≡ length cells
  after-long (Mouse t kind x y) = acted-long (act_of kind) x y
  after-long (State t s) = refl
