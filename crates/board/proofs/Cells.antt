-- Cells and the mines that they say: a number is never -1, so writing numbers over a board changes no mine.
-- Assumes nothing.
use mathlib.Core.Path.{◌≡◌, refl, sym, ap, ◌∙◌}
use mathlib.Core.Bool.{Bool, true, false, cond}
use mathlib.Core.List.{List, [], ◌∷◌}
use Prim.Native.Nat.{ℕ, zero, suc, ◌*◌, ◌<◌, ◌≤◌}
use native.Mathlib.Omega.{arith}
use lib.Dec.{eqb}
use lib.IntN.{ℤ, pos, negsuc}
use lib.ListN.{length, set}
use lib.Seq.{sets}
use lib.Signed.{mag}
use mir.Syntax.{w8}
use mir.Val.{of_z, bool_byte}
use borrow.Author.Tests.{eqb-true, eqb-false}
use Rattle.lists.specs.Lists.{each}
use Rattle.board.specs.Geometry.{is_mine, mine_at, mark_of, cell_of, number, cells}
use Rattle.board.proofs.Front.{stored}

-- the byte of -1 is 255, and no other cell's is
byte_mine : (z : ℤ) → mag z < 128 → of_z w8 z ≡ 255 → is_mine z ≡ true
byte_mine (pos n) f e = absurd (omega arith)
byte_mine (negsuc zero) f e = refl
byte_mine (negsuc (suc n)) f e = absurd (omega arith)

byte_other : (z : ℤ) → (of_z w8 z ≡ 255 → ⊥) → is_mine z ≡ false
byte_other (pos n) h = refl
byte_other (negsuc zero) h = absurd (h refl)
byte_other (negsuc (suc n)) h = refl

pub byte_is : (z : ℤ) → mag z < 128 → eqb (of_z w8 z) 255 ≡ is_mine z
byte_is z f =
    (elim (eqb (of_z w8 z) 255) as (λ t. eqb (of_z w8 z) 255 ≡ t → t ≡ is_mine z) [
      | true ↦ λ q. sym (byte_mine z f (eqb-true (of_z w8 z) 255 q))
      | false ↦ λ q. sym (byte_other z (eqb-false (of_z w8 z) 255 q))
    ]) refl

-- a mine counted
pub one_mine : (b : Bool) → (bool_byte b ≡ cond b 1 0) × (bool_byte b ≤ 1)
one_mine true = (refl, omega arith)
one_mine false = (refl, omega arith)

-- -1 or a number: the mine stays
marked : (b : Bool) (n : ℕ) → is_mine (cond b (negsuc 0) (pos n)) ≡ b
marked true n = refl
marked false n = refl

module _ (mine : ℕ → Bool) where
  pub mark-mine : (k : ℕ) → is_mine (mark_of mine k) ≡ mine k
  unfolding mark_of
  mark-mine k = marked (mine k) 0

  pub cell-mine : (h w k : ℕ) → is_mine (cell_of mine h w k) ≡ mine k
  unfolding cell_of
  cell-mine h w k = marked (mine k) (number mine h w k)

-- a store that says the same mine changes no mine of the board
pub same_mines : (d : List ℤ) (k : ℕ) (v : ℤ) → is_mine v ≡ mine_at d k → (j : ℕ)
    → mine_at (set d k v) j ≡ mine_at d j
unfolding mine_at
same_mines [] k v e j = refl
same_mines (x ∷ d) zero v e zero = e
same_mines (x ∷ d) zero v e (suc j) = refl
same_mines (x ∷ d) (suc k) v e zero = refl
same_mines (x ∷ d) (suc k) v e (suc j) = same_mines d k v e j

-- the mines of a board into which cells were put that say these mines
pub mines_of : (mine : ℕ → Bool) (f : ℕ → ℤ) → ((k : ℕ) → is_mine (f k) ≡ mine k)
    → (d : List ℤ) (n k : ℕ) → n ≤ length d → k < n → mine_at (sets d 0 (each n f)) k ≡ mine k
unfolding mine_at
mines_of mine f e d n k h l = ap is_mine (stored d n f k (pos 0) h l) ∙ e k

-- reading a board back: the mines of its cells are the mines that they were made from
pub read_mines : (mine : ℕ → Bool) (h w : ℕ) (d : List ℤ) (k : ℕ) → h * w ≤ length d → k < h * w
    → mine_at (sets d 0 (cells mine h w)) k ≡ mine k
unfolding cells
read_mines mine h w d k = mines_of mine (cell_of mine h w) (cell-mine mine h w) d (h * w) k
