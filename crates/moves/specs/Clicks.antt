-- Where a click falls (02, note 6): its row is y divided by the pixels of a cell, its column x likewise, rounded
-- down. Definitions only.
use Rattle.std.specs.Prelude.{ℕ, ◌+◌, ◌*◌, ◌/◌, Bool, ◌&&◌, ltb}

-- h rows of w cells, each so many pixels wide and high
module _ (h w pixels : ℕ) where
  -- a click falls on the board if its row and its column are there
  unfoldable pub is_on : (x y : ℕ) → Bool
  is_on x y = ltb (y / pixels) h && ltb (x / pixels) w

  -- the cell on which it falls
  unfoldable pub cell_under : (x y : ℕ) → ℕ
  cell_under x y = (y / pixels) * w + x / pixels
