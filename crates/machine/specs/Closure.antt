-- What an lr uncovers, as a relation (02, note 6): the least set of cells that holds the clicked one and,
-- with each zero that it holds, the covered cells beside that zero. The machine uncovers this very set: `uncovers`
-- of proofs/Closing.antt. Definitions only.
use Rattle.std.specs.Prelude.{ℕ, ◌*◌, ◌<◌, ◌≡◌, Bool, true, List}
use Rattle.board.specs.Geometry.{neighbours}
use Rattle.flood.specs.Spread.{has}
use Rattle.flood.specs.Flood.{is_zero}
use Rattle.machine.specs.Machine.{Cell, covered, uncovered, cell_at, uncovering}

-- an lr on cell k, the cells being these, uncovers cell j
pub data Opens (mine : ℕ → Bool) (h w : ℕ) (cells : List Cell) (k : ℕ) : ℕ → Type 0 where
  clicked : Opens mine h w cells k k
  beside : (i j : ℕ) → Opens mine h w cells k i → is_zero mine h w i ≡ true
      → has (neighbours h w i) j ≡ true → cell_at cells j ≡ covered → Opens mine h w cells k j

-- what the machine makes of the cells: each of that set is uncovered, and every other is as it was
pub record UncoversExactly (mine : ℕ → Bool) (h w : ℕ) (cells : List Cell) (k : ℕ) : Type 0 where
  pub opens : (j : ℕ) → Opens mine h w cells k j → cell_at (uncovering mine h w cells k) j ≡ uncovered
  pub stays : (j : ℕ) → j < h * w → (Opens mine h w cells k j → ⊥)
      → cell_at (uncovering mine h w cells k) j ≡ cell_at cells j
