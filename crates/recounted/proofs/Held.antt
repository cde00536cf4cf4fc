-- A board that was read into the first cells of a longer one is recounted as the file's own cells. Assumes
-- nothing but sizes below 256.
--     own_mines     the mines of the cells that were made from some mines
--     recount-held  the recount in the longer board
use Prim.Native.Nat.{ℕ, ◌*◌, ◌≤◌, ◌<◌}
use mathlib.Core.Path.{◌≡◌, sym, ap, ◌∙◌}
use mathlib.Core.Bool.{Bool}
use mathlib.Core.List.{List}
use native.Mathlib.Omega.{arith}
use lib.IntN.{ℤ, pos}
use lib.ListN.{length}
use lib.Seq.{sets, length-sets}
use Rattle.lists.proofs.Each.{getD-each}
use Rattle.text.specs.declared.Place.{Place}
use Rattle.text.specs.Places.{bytes_at}
use Rattle.board.specs.Bits.{bit_at}
use Rattle.board.specs.Geometry.{is_mine, mine_at, cell_of, cells}
use Rattle.board.proofs.Cells.{cell-mine, read_mines}
use Rattle.board.proofs.Same.{length-cells}
use Rattle.game.specs.declared.Header.{Header}
use Rattle.game.proofs.Sizes.{cells_fit}
use Rattle.evf_video.specs.Reading.{cells_at}
use Rattle.openings.specs.declared.Recount.{Recount}
use Rattle.openings.specs.Recount.{recount_of}
use Rattle.openings.proofs.Alone.{mines_alone}
use Rattle.shown.proofs.Boards.{most-cells}
use Rattle.recounted.specs.Recounting.{most_cells, beside_claim, game_recount}

pub own_mines : (mine : ℕ → Bool) (h w k : ℕ) → k < h * w → mine_at (cells mine h w) k ≡ mine k
unfolding mine_at cells
own_mines mine h w k l = ap is_mine (getD-each (h * w) k (cell_of mine h w) (pos 0) l) ∙ cell-mine mine h w k

module _ (file : List ℕ) (h : Header) (place : Place) (tall : h.height < 256) (wide : h.width < 256)
    (d : List ℤ) (room : length d ≡ most_cells) where
  abbrev own : List ℤ
  own = cells_at file h place

  fits : h.height * h.width ≤ length d
  fits = omega (arith, most-cells h.height h.width tall wide)

  same_mines : (k : ℕ) → k < h.height * h.width → mine_at (sets d 0 own) k ≡ mine_at own k
  same_mines k l =
      let mine = bit_at (bytes_at file place) in
      read_mines mine h.height h.width d k fits l ∙ sym (own_mines mine h.height h.width k l)

  pub recount-held : (r : Recount) (board : List ℤ) (n : ℕ) → board ≡ sets d 0 own → n ≡ most_cells
      → r ≡ recount_of h.height h.width board n → beside_claim h r ≡ game_recount file h place
  unfolding game_recount
  recount-held r board n p q e =
      let size = h.height * h.width in
      let f = fits in
      let held : size ≤ length (sets d 0 own) = omega (arith, length-sets d 0 own) in
      let cut : size ≤ length own =
      omega (arith, length-cells (bit_at (bytes_at file place)) h.height h.width) in
      let same : recount_of h.height h.width (sets d 0 own) most_cells
      ≡ recount_of h.height h.width own most_cells =
      mines_alone h.height h.width (sets d 0 own) own most_cells
      (cells_fit h.height h.width _ held ∙ sym (cells_fit h.height h.width _ cut)) same_mines in
      let is : r ≡ recount_of h.height h.width (sets d 0 own) most_cells = e ∙ rw (p, q) in
      ap (beside_claim h) (is ∙ same)
