-- Uncovering a cell of a board whose cells stand in a lent buffer, an entry each (02, notes 2 and 6).
-- Definitions only.
use Rattle.std.specs.Prelude.{ℕ, ◌*◌, ◌≡◌, Bool, cond, not, ◌&&◌, List, [], eqb, leb, ltb, length, get_or}
use Rattle.std.proofs.lemmas.List.Edits.{sets}
use Rattle.lists.specs.Lists.{each}
use Rattle.board.specs.Geometry.{neighbours, number}
use Rattle.flood.specs.Spread.{mem, size, reached}

-- what an entry says of its cell; any other number is neither
abbrev pub covered_cell : ℕ
covered_cell = 0

abbrev pub uncovered_cell : ℕ
uncovered_cell = 2

-- a zero: a cell of the board that is no mine and has none around it
unfoldable pub is_zero : (ℕ → Bool) → ℕ → ℕ → ℕ → Bool
is_zero mine h w k = ltb k (h * w) && (not (mine k) && eqb (number mine h w k) 0)

-- a lent buffer with every cell of the board covered; one that is too short is left as it is
unfoldable pub all_covered : (h w : ℕ) → List ℕ → List ℕ
all_covered h w cells =
    cond (leb (h * w) (length cells)) (sets cells 0 (each (h * w) (λ k. covered_cell))) cells

-- cell j is covered
abbrev pub covered : List ℕ → ℕ → Bool
covered cells j = eqb (get_or cells j 0) covered_cell

-- what uncovering cell k takes: k, if it is covered, and from each zero so taken its covered neighbours. It
-- takes nothing where the board has no cell k or the buffer is too short for the board.
unfoldable pub taken : (ℕ → Bool) → ℕ → ℕ → List ℕ → ℕ → List Bool
taken mine h w cells k =
    cond (leb (h * w) (length cells) && (ltb k (h * w) && covered cells k))
    (reached (h * w) (neighbours h w) (is_zero mine h w) (covered cells) k)
    []

-- the buffer then: each cell taken is uncovered, and every other entry is as it was
unfoldable pub uncovered : (ℕ → Bool) → ℕ → ℕ → List ℕ → ℕ → List ℕ
uncovered mine h w cells k =
    each (length cells) (λ j. cond (mem (taken mine h w cells k) j) uncovered_cell (get_or cells j 0))

-- what `uncover` promises: every entry of the buffer, and how many cells it took
pub record Uncovers (mine : ℕ → Bool) (h w : ℕ) (before : List ℕ) (k : ℕ) (after : List ℕ) (r : ℕ) : Type 0
  where
    pub is : after ≡ uncovered mine h w before k
    pub many : r ≡ size (taken mine h w before k)
