-- Rows of a board, written cell by cell, and the board row by row. Assumes nothing.
--     row_more, row_all       the first c cells of a row, and the row with its end
--     board-none, board-more  the first rows
--     length-board            a byte for each cell and one for each row
--     same_board              a longer board that begins with the cells has their text
use Prim.Native.Nat.{ℕ, zero, suc, ◌+◌, ◌*◌, ◌≤◌, ◌<◌}
use mathlib.Core.Path.{◌≡◌, refl, sym, ap, ◌∙◌}
use mathlib.Core.List.{List, [], ◌∷◌, ◌++◌}
use native.Mathlib.Omega.{arith}
use native.Mathlib.Numerals.{add-one}
use native.Mathlib.Nat.{suc-mul}
use lib.IntN.{ℤ, pos}
use lib.ListN.{length, drop, length-append, get_or-append}
use lib.Seq.{sets}
use Rattle.lists.specs.Lists.{each}
use Rattle.lists.proofs.Each.{length-each, each_more, each_same}
use Rattle.lists.proofs.Stores.{sets-front}
use Rattle.byte_reader.specs.Numbers.{bytes_of}
use Rattle.byte_writer.specs.Places.{most, Writes}
use Rattle.byte_writer.proofs.Laws.{writes_none, writes_then, writes_as}
use Rattle.lines.specs.Fields.{newline}
use Rattle.lines.proofs.Escaping.{byte_is}
use Rattle.board_text.specs.Rows.{cell_char, char_at, row_text, board_text}

-- one byte more of a run of bytes
pub row_more : {d d' d'' : List ℕ} {at to to' : ℕ} (f : ℕ → ℕ) (c v : ℕ) → length d ≤ most
    → Writes d d' at (each c f) to → v ≡ f c → v < 256 → Writes d' d'' to (bytes_of 1 v) to'
    → Writes d d'' at (each (c + 1) f) to'
row_more f c v l w e h x =
    writes_as
    (ap (λ (b : List ℕ). each c f ++ b) (byte_is v h ∙ ap (λ (k : ℕ). k ∷ []) e) ∙ sym (each_more c f))
    (writes_then l w (λ _. x))

pub row_all : (cells : List ℤ) (width row start c : ℕ) → start ≡ row * width → c ≡ width
    → each c (λ k. char_at cells (start + k)) ++ newline ∷ [] ≡ row_text cells width row
unfolding row_text
row_all cells width row start c e f = rw (e, f)

module _ (cells : List ℤ) (width : ℕ) where
  pub board-none : (d : List ℕ) (at : ℕ) → at ≤ most → Writes d d at (board_text cells width 0) at
  unfolding board_text
  board-none d at l = writes_none d at l

  pub board-more : {d d' d'' : List ℕ} {at to to' : ℕ} (r : ℕ) → length d ≤ most
      → Writes d d' at (board_text cells width r) to → Writes d' d'' to (row_text cells width r) to'
      → Writes d d'' at (board_text cells width (r + 1)) to'
  unfolding board_text
  board-more r l w x = rw add-one (writes_then l w (λ _. x))

  length-row : (r : ℕ) → length (row_text cells width r) ≡ width + 1
  unfolding row_text
  length-row r =
      let f : ℕ → ℕ = λ c. char_at cells (r * width + c) in
      length-append (each width f) (newline ∷ []) ∙ ap (λ (n : ℕ). n + 1) (length-each width f)

  pub length-board : (rows : ℕ) → length (board_text cells width rows) ≡ rows * (width + 1)
  unfolding board_text
  length-board zero = omega arith
  length-board (suc r) =
      let e = length-append (board_text cells width r) (row_text cells width r) in
      let s = suc-mul r (width + 1) in
      e ∙ rw (length-board r, length-row r) (sym s)

-- a board that begins with the cells
module _ (cells rest : List ℤ) (width : ℕ) where
  same_row : (r : ℕ) → r * width + width ≤ length cells
      → row_text (cells ++ rest) width r ≡ row_text cells width r
  unfolding row_text char_at
  same_row r l =
      ap (λ (t : List ℕ). t ++ newline ∷ [])
      (each_same width _ _ (λ k h.
      ap cell_char (get_or-append cells rest (pos 0) (r * width + k) (omega arith))))

  begins : (rows : ℕ) → rows * width ≤ length cells
      → board_text (cells ++ rest) width rows ≡ board_text cells width rows
  unfolding board_text
  begins zero l = refl
  begins (suc r) l =
      let s = suc-mul r width in
      let a : r * width + width ≤ length cells = omega arith in
      let b : r * width ≤ length cells = omega arith in
      rw (begins r b, same_row r a)

pub same_board : (d cells : List ℤ) (width rows : ℕ) → rows * width ≤ length cells → length cells ≤ length d
    → board_text (sets d 0 cells) width rows ≡ board_text cells width rows
same_board d cells width rows l h =
    ap (λ (b : List ℤ). board_text b width rows) (sets-front d cells h)
    ∙ begins cells (drop (length cells) d) width rows l
