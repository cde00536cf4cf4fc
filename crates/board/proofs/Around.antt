-- The number of a cell, summed as code sums it: a test for each side, then one cell or one row. Assumes
-- nothing.
use mathlib.Core.Path.{◌≡◌, refl, ap}
use mathlib.Core.Bool.{Bool, cond}
use mathlib.Core.List.{List, [], ◌∷◌, ◌++◌, map, map-append, append-nil}
use Prim.Native.Nat.{ℕ, ◌+◌, ◌-◌, ◌*◌, ◌/◌, ◌%◌, ◌<◌, ◌≤◌}
use native.Mathlib.Nat.{add-zero}
use native.Mathlib.Omega.{arith}
use borrow.Author.Tests.{lt-ltb, le-ltb}
use Rattle.lists.specs.Lists.{count}
use Rattle.lists.proofs.Each.{count-append}
use Rattle.board.specs.Geometry.{before, behind, beside, near, crossing, neighbours, number}

-- one side: nothing, or the one place there
module _ {A : Type 0} (f : List ℕ → A) where
  pub before-none : (i : ℕ) → i ≤ 0 → f (before i) ≡ f []
  before-none i h = rw (le-ltb 0 i h)

  pub before-one : (i : ℕ) → 0 < i → f (before i) ≡ f ((i - 1) ∷ [])
  before-one i h = rw (lt-ltb 0 i h)

  pub behind-none : (n i : ℕ) → n ≤ i + 1 → f (behind n i) ≡ f []
  behind-none n i h = rw (le-ltb (i + 1) n h)

  pub behind-one : (n i : ℕ) → i + 1 < n → f (behind n i) ≡ f ((i + 1) ∷ [])
  behind-one n i h = rw (lt-ltb (i + 1) n h)

module _ (mine : ℕ → Bool) where
  -- the mines of some columns in the row whose first cell is s
  abbrev pub in_row : ℕ → List ℕ → ℕ
  in_row s cs = count mine (map (λ c. s + c) cs)

  pub one : (k : ℕ) → count mine (k ∷ []) ≡ cond (mine k) 1 0
  one k = add-zero (cond (mine k) 1 0)

  pub sides : (s n i : ℕ) → in_row s (beside n i) ≡ in_row s (before i) + in_row s (behind n i)
  unfolding beside
  sides s n i = rw (map-append (λ c. s + c) (before i) (behind n i))
      (count-append mine (map (λ c. s + c) (before i)) (map (λ c. s + c) (behind n i)))

  -- the mines of some columns in some rows
  abbrev pub inRows : ℕ → List ℕ → List ℕ → ℕ
  inRows w cs rs = count mine (crossing w rs cs)

  pub rows_append : (w : ℕ) (cs rs ss : List ℕ) → inRows w cs (rs ++ ss) ≡ inRows w cs rs + inRows w cs ss
  unfolding crossing
  rows_append w cs [] ss = omega arith
  rows_append w cs (r ∷ rs) ss =
      let m = map (λ c. r * w + c) cs in
      omega (
        arith,
        count-append mine m (crossing w (rs ++ ss) cs),
        count-append mine m (crossing w rs cs),
        rows_append w cs rs ss,
      )

  pub one-row : (w r : ℕ) (cs : List ℕ) → inRows w cs (r ∷ []) ≡ in_row (r * w) cs
  unfolding crossing
  one-row w r cs = ap (count mine) (append-nil (map (λ c. r * w + c) cs))

  pub no_row : (w : ℕ) (cs : List ℕ) → inRows w cs [] ≡ 0
  unfolding crossing
  no_row w cs = refl

  pub parts : (h w k : ℕ) → let r = k / w in let c = k % w in
      number mine h w k ≡ in_row (r * w) (beside w c) + inRows w (near w c) (before r) + inRows w (near w c)
      (behind h r)
  unfolding number neighbours beside
  parts h w k =
      let r = k / w in let c = k % w in
      omega (
        arith,
        count-append mine (crossing w (beside h r) (near w c)) (crossing w (r ∷ []) (beside w c)),
        rows_append w (near w c) (before r) (behind h r),
        one-row w r (beside w c),
      )
