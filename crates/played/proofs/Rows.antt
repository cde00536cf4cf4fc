-- Rows of a board as it is seen, the row with its end and the board row by row. Assumes nothing.
use Prim.Native.Nat.{ℕ, ◌+◌, ◌*◌, ◌≤◌}
use mathlib.Core.Path.{◌≡◌}
use mathlib.Core.List.{List, [], ◌∷◌, ◌++◌}
use native.Mathlib.Numerals.{add-one}
use lib.IntN.{ℤ}
use lib.ListN.{length}
use Rattle.lists.specs.Lists.{each}
use Rattle.byte_writer.specs.Places.{most, Writes}
use Rattle.byte_writer.proofs.Laws.{writes_none, writes_then}
use Rattle.lines.specs.Fields.{newline}
use Rattle.played.specs.Seen.{seen_at, seen_row, seen_text}

module _ (board : List ℤ) (cells : List ℕ) (width : ℕ) where
  pub row_all : (row start c : ℕ) → start ≡ row * width → c ≡ width
      → each c (λ k. seen_at board cells (start + k)) ++ newline ∷ [] ≡ seen_row board cells width row
  unfolding seen_row
  row_all row start c e f = rw (e, f)

  pub seen_none : (d : List ℕ) (at : ℕ) → at ≤ most → Writes d d at (seen_text board cells width 0) at
  unfolding seen_text
  seen_none d at l = writes_none d at l

  pub seen_more : {d d' d'' : List ℕ} {at to to' : ℕ} (r : ℕ) → length d ≤ most
      → Writes d d' at (seen_text board cells width r) to → Writes d' d'' to (seen_row board cells width r) to'
      → Writes d d'' at (seen_text board cells width (r + 1)) to'
  unfolding seen_text
  seen_more r l w x = rw add-one (writes_then l w (λ _. x))
