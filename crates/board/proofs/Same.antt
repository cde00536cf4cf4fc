-- Numbers and cells depend only on the mines of the board itself, and a number is at most 8. Assumes nothing.
use mathlib.Core.Path.{◌≡◌, refl, sym, ap, ◌∙◌}
use mathlib.Core.Bool.{Bool, true, false, cond}
use mathlib.Core.List.{List, [], ◌∷◌, ◌++◌, map}
use Prim.Native.Nat.{ℕ, ◌+◌, ◌-◌, ◌*◌, ◌/◌, ◌%◌, ◌<◌, ◌≤◌}
use native.Mathlib.Omega.{arith}
use lib.Arith.{digits_lt}
use lib.Dec.{ltb}
use lib.IntN.{ℤ}
use lib.ListN.{length, length-append, length-map}
use lib.Seq.{sets, length-sets}
use borrow.Author.Tests.{le-leb, ltb-true}
use Rattle.lists.specs.Lists.{each, count}
use Rattle.lists.proofs.Each.{length-each, each_same, count-le}
use Rattle.board.specs.Geometry.{before, behind, beside, near, crossing, neighbours, number, cell_of}
use Rattle.board.specs.Geometry.{cells, board_after, mine_at, mark_of}
use Rattle.board.proofs.Places.{on}
use Rattle.board.proofs.Front.{sets-again}
use Rattle.board.proofs.Cells.{mark-mine, mines_of}
use Rattle.board.proofs.Around.{in_row, inRows, one-row, no_row, parts}

-- every entry is below n
abbrev pub Below : ℕ → List ℕ → Type 0
Below n [] = Unit {0}
Below n (x ∷ xs) = (x < n) × Below n xs

below_append : (n : ℕ) (xs ys : List ℕ) → Below n xs → Below n ys → Below n (xs ++ ys)
below_append n [] ys a b = b
below_append n (x ∷ xs) ys a b = (a.0, below_append n xs ys a.1 b)

-- an optional entry, below n where it is there
below_if : (n x : ℕ) (t : Bool) → (t ≡ true → x < n) → Below n (cond t (x ∷ []) [])
below_if n x true h = (h refl, tt)
below_if n x false h = tt

module _ (n i : ℕ) (l : i < n) where
  pub beside-below : Below n (beside n i)
  unfolding beside
  beside-below =
      below_append n (before i) (behind n i) (below_if n (i - 1) (ltb 0 i) (λ e. omega arith))
      (below_if n (i + 1) (ltb (i + 1) n) (ltb-true (i + 1) n))

  pub near-below : Below n (near n i)
  unfolding near
  near-below = (l, beside-below)

row_below : (h w r : ℕ) → r < h → (cs : List ℕ) → Below w cs → Below (h * w) (map (λ c. r * w + c) cs)
row_below h w r l [] b = tt
row_below h w r l (c ∷ cs) b = (digits_lt l b.0, row_below h w r l cs b.1)

rows_below : (h w : ℕ) (rs cs : List ℕ) → Below h rs → Below w cs → Below (h * w) (crossing w rs cs)
unfolding crossing
rows_below h w [] cs a b = tt
rows_below h w (r ∷ rs) cs a b =
    below_append (h * w) (map (λ c. r * w + c) cs) (crossing w rs cs) (row_below h w r a.0 cs b)
    (rows_below h w rs cs a.1 b)

-- the neighbours of a cell on the board are on the board
pub neighbours_on : (h w k : ℕ) → k < h * w → Below (h * w) (neighbours h w k)
unfolding neighbours
neighbours_on h w k l =
    let p = on h w k l in
    let r = k / w in
    let c = k % w in
    below_append (h * w) (crossing w (beside h r) (near w c)) (crossing w (r ∷ []) (beside w c))
    (rows_below h w (beside h r) (near w c) (beside-below h r p.row) (near-below w c p.column))
    (rows_below h w (r ∷ []) (beside w c) (p.row, tt) (beside-below w c p.column))

count_same : (n : ℕ) (p q : ℕ → Bool) → ((k : ℕ) → k < n → p k ≡ q k) → (xs : List ℕ) → Below n xs
    → count p xs ≡ count q xs
count_same n p q h [] b = refl
count_same n p q h (x ∷ xs) b = rw (h x b.0, count_same n p q h xs b.1)

module _ (h w : ℕ) (p q : ℕ → Bool) (same : (k : ℕ) → k < h * w → p k ≡ q k) where
  pub number_same : (k : ℕ) → k < h * w → number p h w k ≡ number q h w k
  unfolding number
  number_same k l = count_same (h * w) p q same (neighbours h w k) (neighbours_on h w k l)

  pub cell_same : (k : ℕ) → k < h * w → cell_of p h w k ≡ cell_of q h w k
  unfolding cell_of
  cell_same k l = rw (same k l, number_same k l)

  pub cells_same : cells p h w ≡ cells q h w
  unfolding cells
  cells_same = each_same (h * w) (cell_of p h w) (cell_of q h w) cell_same

pub length-cells : (mine : ℕ → Bool) (h w : ℕ) → length (cells mine h w) ≡ h * w
unfolding cells
length-cells mine h w = length-each (h * w) (cell_of mine h w)

-- -1 and 0 first, then the numbers in place: as if the cells had been put there at once
pub in_place : (mine : ℕ → Bool) (h w : ℕ) (d : List ℤ) → h * w ≤ length d
    → let d' = sets d 0 (each (h * w) (mark_of mine)) in board_after (mine_at d') h w d' ≡ board_after mine h w d
unfolding board_after
in_place mine h w d l =
    let d' = sets d 0 (each (h * w) (mark_of mine)) in
    let e : length (each (h * w) (mark_of mine)) ≡ h * w = length-each (h * w) (mark_of mine) in
    let e' : length (cells mine h w) ≡ h * w = length-cells mine h w in
    rw (length-sets d 0 (each (h * w) (mark_of mine)), le-leb (h * w) (length d) l)
    (ap (sets d' 0)
    (cells_same h w (mine_at d') mine (λ k. mines_of mine (mark_of mine) (mark-mine mine) d (h * w) k l))
    ∙ sets-again d (each (h * w) (mark_of mine)) (cells mine h w) (e ∙ sym e') (omega arith))

-- AT MOST EIGHT

few : (t : Bool) (x : ℕ) → length (cond t (x ∷ []) []) ≤ 1
few true x = omega arith
few false x = omega arith

beside_few : (n i : ℕ) → length (beside n i) ≤ 2
unfolding beside
beside_few n i = omega
    (arith, length-append (before i) (behind n i), few (ltb 0 i) (i - 1), few (ltb (i + 1) n) (i + 1))

row_few : (mine : ℕ → Bool) (s : ℕ) (cs : List ℕ) → in_row mine s cs ≤ length cs
row_few mine s cs = omega (arith, count-le mine (map (λ c. s + c) cs), length-map cs (λ c. s + c))

rows_few : (mine : ℕ → Bool) (w : ℕ) (cs : List ℕ) (t : Bool) (r : ℕ)
    → inRows mine w cs (cond t (r ∷ []) []) ≤ length cs
rows_few mine w cs true r = omega (arith, one-row mine w r cs, row_few mine (r * w) cs)
rows_few mine w cs false r = omega (arith, no_row mine w cs)

pub number_few : (mine : ℕ → Bool) (h w k : ℕ) → number mine h w k ≤ 8
unfolding near
number_few mine h w k =
    let r = k / w in
    let c = k % w in
    omega (
      arith,
      parts mine h w k,
      beside_few w c,
      row_few mine (r * w) (beside w c),
      rows_few mine w (near w c) (ltb 0 r) (r - 1),
      rows_few mine w (near w c) (ltb (r + 1) h) (r + 1),
    )
