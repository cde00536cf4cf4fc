-- A board that was read, and its text. Assumes nothing.
use Prim.Native.Nat.{ℕ, ◌*◌, ◌≤◌, ◌<◌}
use mathlib.Core.Path.{◌≡◌, ap, ◌∙◌}
use mathlib.Core.List.{List}
use native.Mathlib.Nat.{mul-le-mul}
use native.Mathlib.Omega.{arith}
use lib.IntN.{ℤ}
use lib.ListN.{length}
use lib.Seq.{sets}
use borrow.Author.Tests.{le-leb}
use Rattle.lists.proofs.Each.{length-each}
use Rattle.text.specs.declared.Place.{Place}
use Rattle.text.specs.Places.{bytes_at}
use Rattle.board.specs.Bits.{bit_at}
use Rattle.board.specs.Geometry.{cells, board_after}
use Rattle.game.specs.declared.Header.{Header}
use Rattle.evf_video.specs.Reading.{cells_at}
use Rattle.board_text.specs.Rows.{board_text}
use Rattle.board_text.proofs.Rows.{same_board}

pub most-cells : (h w : ℕ) → h < 256 → w < 256 → h * w ≤ 65025
most-cells h w a b =
    let c : h ≤ 255 = omega arith in
    let d : w ≤ 255 = omega arith in
    let e : h * w ≤ 255 * 255 = mul-le-mul c d in
    omega arith

module _ (file : List ℕ) (h : Header) (place : Place) (d : List ℤ) (tall : h.height < 256)
    (wide : h.width < 256) (room : length d ≡ 65025) where
  fits : h.height * h.width ≤ length d
  fits = omega (arith, most-cells h.height h.width tall wide)

  pub board_read_lem : {d' : List ℤ} {bits : List ℕ} → bits ≡ bytes_at file place
      → d' ≡ board_after (bit_at bits) h.height h.width d → d' ≡ sets d 0 (cells_at file h place)
  unfolding board_after
  board_read_lem e q = q ∙ rw (e, le-leb (h.height * h.width) (length d) fits)

  many-cells : length (cells_at file h place) ≡ h.height * h.width
  unfolding cells
  many-cells = length-each (h.height * h.width) _

  pub board-text : {d' : List ℤ} → d' ≡ sets d 0 (cells_at file h place)
      → board_text d' h.width h.height ≡ board_text (cells_at file h place) h.width h.height
  board-text e =
      let n = many-cells in
      let f = fits in
      ap (λ (b : List ℤ). board_text b h.width h.height) e
      ∙ same_board d (cells_at file h place) h.width h.height (omega arith) (omega arith)
