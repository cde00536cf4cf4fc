-- The board of 01, "Board": cells by number, row by row, from 0. A layout of mines is a test on cell numbers,
-- so that packed bits, a lent board and any other source of mines are said by the same words. Definitions
-- only.
use Rattle.std.specs.Prelude.{ℕ, zero, suc, ◌+◌, ◌-◌, ◌*◌, ◌/◌, ◌%◌, Bool, true, false, cond, List, [], ◌∷◌, ◌++◌, map, leb, ltb, ℤ, pos, negsuc, length, get_or}
use Rattle.std.proofs.lemmas.List.Edits.{sets}
use Rattle.lists.specs.Lists.{each, count}

-- the place before place i, unless i is the first, and the place behind it, unless i is the last of n
abbrev pub before : ℕ → List ℕ
before i = cond (ltb 0 i) ((i - 1) ∷ []) []

abbrev pub behind : ℕ → ℕ → List ℕ
behind n i = cond (ltb (i + 1) n) ((i + 1) ∷ []) []

-- the places beside place i of n
unfoldable pub beside : ℕ → ℕ → List ℕ
beside n i = before i ++ behind n i

-- i itself and the places beside it
unfoldable pub near : ℕ → ℕ → List ℕ
near n i = i ∷ beside n i

-- the cells of some columns in some rows, where a row is w wide
unfoldable pub crossing : ℕ → List ℕ → List ℕ → List ℕ
crossing w [] cs = []
crossing w (r ∷ rs) cs = map (λ c. r * w + c) cs ++ crossing w rs cs

-- the cells around cell k of h rows of w: three at most in each row beside its own, and the two beside it in
-- its own row
unfoldable pub neighbours : ℕ → ℕ → ℕ → List ℕ
neighbours h w k = crossing w (beside h (k / w)) (near w (k % w)) ++ crossing w ((k / w) ∷ [])
    (beside w (k % w))

-- the mines among the neighbours of cell k
unfoldable pub number : (ℕ → Bool) → ℕ → ℕ → ℕ → ℕ
number mine h w k = count mine (neighbours h w k)

-- cell k: -1 for a mine, else its number
unfoldable pub cell_of : (ℕ → Bool) → ℕ → ℕ → ℕ → ℤ
cell_of mine h w k = cond (mine k) (negsuc 0) (pos (number mine h w k))

-- the cells of h rows of w, row by row
unfoldable pub cells : (ℕ → Bool) → ℕ → ℕ → List ℤ
cells mine h w = each (h * w) (cell_of mine h w)

-- a lent board into which the cells went: the first h * w are the cells, the rest is as it was; one that is
-- too short is left as it is
unfoldable pub board_after : (ℕ → Bool) → ℕ → ℕ → List ℤ → List ℤ
board_after mine h w d = cond (leb (h * w) (length d)) (sets d 0 (cells mine h w)) d

-- the mines of a lent board: a cell is one if it is -1, and not if it is any other number; past the end there
-- are none
abbrev pub is_mine : ℤ → Bool
is_mine (pos n) = false
is_mine (negsuc zero) = true
is_mine (negsuc (suc n)) = false

unfoldable pub mine_at : List ℤ → ℕ → Bool
mine_at board k = is_mine (get_or board k (pos 0))

-- a cell that says only whether it is a mine
unfoldable pub mark_of : (ℕ → Bool) → ℕ → ℤ
mark_of mine k = cond (mine k) (negsuc 0) (pos 0)

-- how many of the first n cells are mines
unfoldable pub mines_in : (ℕ → Bool) → ℕ → ℕ
mines_in mine n = count mine (each n (λ k. k))
