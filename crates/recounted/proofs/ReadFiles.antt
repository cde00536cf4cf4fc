-- A FILE THAT IS READ IS NEVER REFUSED BY ITS RECOUNT. Assumes nothing but that the file is bytes.
--     counts-game     one that is read gives its header's 3BV, and the 3BV and the openings of the mines that
--                     its board's bits say
--     refused-as-read    one that reading refuses is refused with that number, which is 1 to 10
--     refuses-only    and no other is refused
use Prim.Native.Nat.{ℕ, ◌*◌, ◌≤◌, ◌<◌}
use mathlib.Core.Path.{◌≡◌, refl, sym, ap, ◌∙◌}
use mathlib.Core.List.{List}
use native.Mathlib.Omega.{arith}
use lib.ListN.{length}
use Rattle.text.specs.declared.Place.{Place}
use Rattle.text.specs.Places.{bytes_at}
use Rattle.board.specs.Bits.{bit_at}
use Rattle.board.specs.Geometry.{mine_at}
use Rattle.board.proofs.Same.{length-cells}
use Rattle.game.specs.declared.Event.{Event}
use Rattle.game.specs.declared.Header.{Header}
use Rattle.game.proofs.Sizes.{sizes_fine, cells_fit}
use Rattle.byte_reader.specs.Reading.{Bytes}
use Rattle.evf_video.specs.Reading.{Reading, game, none, reading_of, cells_at}
use Rattle.evf_video.proofs.Answers.{Within, reading-refuses}
use Rattle.evf_video.proofs.Trace.{way, sound}
use Rattle.openings.specs.Bbbv.{openings, bbbv}
use Rattle.openings.specs.Recount.{recount_of}
use Rattle.openings.proofs.Alone.{openings-same, bbbv-same}
use Rattle.shown.proofs.Boards.{most-cells}
use Rattle.recounted.specs.declared.FileRecount.{FileRecount}
use Rattle.recounted.specs.declared.FileRecount.TheVariants.{Counts, Refused}
use Rattle.recounted.specs.Recounting.{most_cells, game_recount, recount_by, file_recount}
use Rattle.recounted.proofs.Held.{own_mines}

-- the header's 3BV, and the 3BV and the openings of the mines of a packed board
abbrev pub counts_of : List ℕ → Header → (board : Place) → FileRecount
counts_of file h board =
    let mine = bit_at (bytes_at file board) in
    Counts h.bbbv (bbbv mine h.height h.width) (openings mine h.height h.width)

-- a board that has a row, and sizes of a byte
game_counts : (file : List ℕ) (h : Header) (board : Place) → 0 < h.height → h.height < 256
    → h.width < 256 → game_recount file h board ≡ counts_of file h board
unfolding game_recount recount_of
game_counts file h board some tall wide =
    let mine = bit_at (bytes_at file board) in
    let own = cells_at file h board in
    let most = most-cells h.height h.width tall wide in
    let cut : h.height * h.width ≤ length own = omega (arith, length-cells mine h.height h.width) in
    let same = own_mines mine h.height h.width in
    rw (
      sizes_fine h.height h.width some tall wide,
      cells_fit h.height h.width (length own) cut,
      cells_fit h.height h.width most_cells most,
      openings-same h.height h.width (mine_at own) mine same,
      bbbv-same h.height h.width (mine_at own) mine same,
    )

module _ (file : List ℕ) (small : Bytes file) where
  pub counts-game : (h : Header) (board : Place) (es : List Event) → reading_of file ≡ game h board es
      → file_recount file ≡ counts_of file h board
  unfolding file_recount
  counts-game h board es e =
      let t = way file small e in
      let s = sound file small e in
      let some : 0 < h.height = rw t.header_is s.height_some in
      let tall : h.height < 256 = rw t.header_is s.height in
      let wide : h.width < 256 = rw t.header_is s.width in
      ap (recount_by file) e ∙ game_counts file h board some tall wide

  pub refused-as-read : (n : ℕ) → reading_of file ≡ none n → (file_recount file ≡ Refused n) × Within 10 n
  unfolding file_recount
  refused-as-read n e = (ap (recount_by file) e, reading-refuses file small e)

  by-reading : (R : Reading) → reading_of file ≡ R → (n : ℕ) → file_recount file ≡ Refused n → R ≡ none n
  by-reading (game h board es) e n q =
      let f : counts_of file h board ≡ Refused n = sym (counts-game h board es e) ∙ q in
      let z : ◌≡◌ {A = ℕ} 0 1 = cc in absurd (omega arith)
  by-reading (none m) e n q = let f : Refused m ≡ Refused n = sym (refused-as-read m e).0 ∙ q in cc

  pub refuses-only : (n : ℕ) → file_recount file ≡ Refused n → reading_of file ≡ none n
  refuses-only n = by-reading (reading_of file) refl n
