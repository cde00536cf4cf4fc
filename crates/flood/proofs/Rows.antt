-- The neighbours of a cell in the order in which code puts them onto the pile: a side, a row, three rows.
-- Assumes nothing.
use mathlib.Core.Path.{◌≡◌, refl, sym, ◌∙◌, ap}
use mathlib.Core.List.{List, [], ◌∷◌, ◌++◌, map, map-append, append-nil, append_assoc}
use Prim.Native.Nat.{ℕ, ◌+◌, ◌*◌, ◌/◌, ◌%◌, ◌<◌, ◌≤◌}
use native.Mathlib.Nat.{mul-le-mul_right, suc-mul}
use Rattle.board.specs.Geometry.{before, behind, beside, near, crossing, neighbours}
use Rattle.board.proofs.Places.{product}

-- a place beside column c, or none
module _ (s n i : ℕ) where
  pub sides : map (λ x. s + x) (beside n i) ≡ map (λ x. s + x) (before i) ++ map (λ x. s + x) (behind n i)
  unfolding beside
  sides = map-append (λ x. s + x) (before i) (behind n i)

  pub with_itself : map (λ x. s + x) (near n i) ≡ (s + i) ∷ map (λ x. s + x) (beside n i)
  unfolding near
  with_itself = refl

-- rows of cells
module _ (w : ℕ) (cs : List ℕ) where
  pub no_rows : crossing w [] cs ≡ []
  unfolding crossing
  no_rows = refl

  pub row_of : (r : ℕ) → crossing w (r ∷ []) cs ≡ map (λ x. r * w + x) cs
  unfolding crossing
  row_of r = append-nil (map (λ x. r * w + x) cs)

  pub rows_both : (rs ss : List ℕ) → crossing w (rs ++ ss) cs ≡ crossing w rs cs ++ crossing w ss cs
  unfolding crossing
  rows_both [] ss = refl
  rows_both (r ∷ rs) ss =
      ap (λ (l : List ℕ). map (λ x. r * w + x) cs ++ l) (rows_both rs ss)
      ∙ sym (append_assoc (map (λ x. r * w + x) cs) (crossing w rs cs) (crossing w ss cs))

-- the neighbours of a cell: the row above, the row below, its own row
pub around : (h w k : ℕ) → let r = k / w in let c = k % w in
    neighbours h w k ≡ (crossing w (before r) (near w c) ++ crossing w (behind h r) (near w c))
    ++ map (λ x. r * w + x) (beside w c)
unfolding neighbours beside
around h w k =
    let r = k / w in let c = k % w in
    ap (λ (l : List ℕ). l ++ crossing w (r ∷ []) (beside w c))
    (rows_both w (near w c) (before r) (behind h r))
    ∙ ap (λ (l : List ℕ). (crossing w (before r) (near w c) ++ crossing w (behind h r) (near w c)) ++ l)
    (row_of w (beside w c) r)

-- a row of the board ends on the board
pub row_ends : (h w r : ℕ) → r < h → h < 256 → w < 256 → (r * w + w ≤ h * w) × (h * w ≤ 65025)
row_ends h w r l a b = (rw suc-mul at (mul-le-mul_right w l), product h w a b)
