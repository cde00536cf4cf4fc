-- A LONGER BOARD. A game that was read into the first cells of a longer board is judged and written as with
-- its own cells: the checks ask for the board's length alone, and the file for the mines of its first cells.
-- Assumes nothing but sizes below 256.
--     cells-long       a game that was read has height x width cells, which are enough
--     longer-checks    the first check that holds is the same
--     longer-file      and so is the file
use Prim.Native.Nat.{ℕ, ◌*◌, ◌≤◌, ◌<◌}
use mathlib.Core.Path.{◌≡◌, sym, ap, ◌∙◌}
use mathlib.Core.Bool.{false}
use mathlib.Core.List.{List, ◌++◌, append-nil}
use native.Mathlib.Nat.{mod-eq_of_lt}
use native.Mathlib.Omega.{arith}
use lib.Ieee.{Float}
use lib.IntN.{ℤ}
use lib.ListN.{length}
use lib.Seq.{sets, length-sets, drop-length}
use Rattle.lists.proofs.Stores.{sets-front}
use Rattle.text.specs.declared.Place.{Place}
use Rattle.text.specs.Places.{bytes_at}
use Rattle.board.specs.Bits.{bit_at, packed}
use Rattle.board.specs.Geometry.{mine_at}
use Rattle.board.proofs.Same.{length-cells}
use Rattle.board.proofs.Trip.{packed_back}
use Rattle.game.specs.declared.Event.{Event}
use Rattle.game.specs.declared.Header.{Header}
use Rattle.evf_video.specs.Reading.{cells_at, game_read}
use Rattle.mouse_records.specs.Records.{nothing_yet, row_bytes}
use Rattle.layout_fields.specs.Fields.{lent, board_bytes}
use Rattle.layout_v4.specs.Version4.{translation_bytes, metrics_bytes, texts4, front4, tail4}
use Rattle.evf_layout.specs.Layout.{file_of}
use Rattle.game.specs.Sizes.{cells_short}
use Rattle.game.proofs.Sizes.{cells_fit}
use Rattle.evf_judging.specs.Refusals.{first_refusal, checks}

-- a list over itself
pub over_itself : {A : Type 0} (l : List A) → sets l 0 l ≡ l
over_itself l = sets-front l l (omega arith) ∙ ap (λ m. l ++ m) (drop-length l) ∙ append-nil l

module _ (s : List ℕ) (h : Header) (place : Place) where
  pub cells-long : length (cells_at s h place) ≡ h.height * h.width
  cells-long = length-cells (bit_at (bytes_at s place)) h.height h.width

  pub board_fits : cells_short h.height h.width (length (cells_at s h place)) ≡ false
  board_fits = cells_fit h.height h.width (length (cells_at s h place)) (omega (arith, cells-long))

module _ (toMs : Float → ℕ) (s : List ℕ) (h : Header) (place : Place) (es : List Event) (d : List ℤ)
    (room : h.height * h.width ≤ length d) where
  pub longer-checks : first_refusal (checks toMs 4 (lent h s (sets d 0 (cells_at s h place)) es))
      ≡ first_refusal (checks toMs 4 (game_read s h place es))
  longer-checks =
      let c = cells_at s h place in
      let fits : cells_short h.height h.width (length (sets d 0 c)) ≡ false =
      cells_fit h.height h.width (length (sets d 0 c)) (omega (arith, length-sets d 0 c, room)) in
      rw (fits, board_fits s h place)

  module _ (tall : h.height < 256) (wide : h.width < 256) where
    same_board : board_bytes (lent h s (sets d 0 (cells_at s h place)) es) ≡ board_bytes (game_read s h place es)
    unfolding board_bytes
    same_board =
        let c = cells_at s h place in
        let mine = bit_at (bytes_at s place) in
        rw (mod-eq_of_lt tall, mod-eq_of_lt wide)
        (packed_back mine h.height h.width d room
        ∙ sym (packed_back mine h.height h.width c (omega (arith, cells-long s h place)))
        ∙ ap (λ (l : List ℤ). packed (mine_at l) (h.height * h.width)) (over_itself c))

    same-front : front4 (lent h s (sets d 0 (cells_at s h place)) es) ≡ front4 (game_read s h place es)
    unfolding front4 texts4 translation_bytes metrics_bytes
    same-front = rw same_board

    pub longer-file : file_of toMs 4 (lent h s (sets d 0 (cells_at s h place)) es)
        ≡ file_of toMs 4 (game_read s h place es)
    unfolding tail4
    longer-file = ap (λ (l : List ℕ). l ++ (row_bytes toMs 4 nothing_yet es ++ tail4 (game_read s h place es)))
        same-front
