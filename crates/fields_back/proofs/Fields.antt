-- The fields that both versions have, written and read (01, Header, Board), and what stands before the board.
-- Assumes nothing.
--     marks-takes     both flag bytes
--     sizes-takes     the six numbers from the height to the 3BV
--     board-takes     the packed board
--     FrontCarries    what is read before the board is what a version carries of the header
use Prim.Native.Nat.{ℕ, ◌+◌, ◌*◌, ◌≤◌, ◌<◌}
use mathlib.Core.Path.{◌≡◌, sym}
use mathlib.Core.Bool.{Bool}
use mathlib.Core.List.{List, ◌++◌}
use native.Mathlib.Omega.{arith}
use native.Mathlib.Nat.{mod-eq_of_lt}
use lib.Dec.{eqb}
use lib.ListN.{get_or}
use borrow.Author.Tests.{ne_eqb, le-leb}
use Rattle.text.specs.declared.Place.{Place}
use Rattle.text.specs.Places.{absent, bytes_at}
use Rattle.board.specs.Geometry.{mine_at}
use Rattle.board.specs.Bits.{packed}
use Rattle.board.proofs.Packed.{length-packed}
use Rattle.game.specs.declared.Header.{Header}
use Rattle.game.specs.Header.{software_slot, translated_software_slot, original_encoding_slot, player_slot}
use Rattle.game.specs.Header.{race_slot, unique_id_slot, device_id_slot}
use Rattle.game.specs.Same.{Game}
use Rattle.byte_reader.specs.Numbers.{bytes_of}
use Rattle.byte_reader.proofs.Laws.{Takes, then, number-takes, bytes-takes}
use Rattle.header_fields.specs.declared.Flags.{Flags}
use Rattle.header_fields.specs.declared.Sizes.{Sizes}
use Rattle.header_fields.specs.declared.Texts.{Texts}
use Rattle.header_fields.specs.declared.Front.{Front}
use Rattle.header_fields.specs.Fields.{flags, sizes, board_bytes}
use Rattle.layout_fields.specs.Fields.{bit, first_flags, second_flags, board_bytes as boardWritten}
use Rattle.fields_back.specs.Fits.{SizesFit}
use Rattle.fields_back.specs.Carried.{Carried, saved_texts}
use Rattle.fields_back.proofs.Taken.{last, when-takes}

-- FLAGS AND SIZES

-- the flags of a header, with version 4's bit for a translation
abbrev pub marks_of : Header → (translated : Bool) → Flags
marks_of h translated = record { first = first_flags h + bit translated 0x08; second = second_flags h }

abbrev pub sizes_of : Header → Sizes
sizes_of h =
    record {
      height = h.height;
      width = h.width;
      mine_num = h.mine_num;
      cell_pixel_size = h.cell_pixel_size;
      mode = h.mode;
      bbbv = h.bbbv;
    }

abbrev pub sizes_bytes : Header → List ℕ
sizes_bytes h =
    bytes_of 1 h.height
    ++ (bytes_of 1 h.width
    ++ (bytes_of 2 h.mine_num
    ++ (bytes_of 1 h.cell_pixel_size ++ (bytes_of 2 h.mode ++ bytes_of 2 h.bbbv))))

-- WHAT IS READ BEFORE THE BOARD

-- the bytes at a place of the file are those of a text of the game, as it is saved
abbrev pub SavedAt : (s : List ℕ) → Game → (translation : Bool) → Place → (slot : ℕ) → Type 0
SavedAt s g translation p slot =
    bytes_at s p ≡ bytes_at g.bytes (get_or (saved_texts translation g.header) slot absent)

pub record TextsCarry (s : List ℕ) (g : Game) (carried : Carried) (t : Texts) : Type 0 where
  pub software : SavedAt s g carried.translation t.software software_slot
  pub translated_software :
      SavedAt s g carried.translation t.translated_software translated_software_slot
  pub original_encoding : SavedAt s g carried.translation t.original_encoding original_encoding_slot
  pub player : SavedAt s g carried.translation t.player player_slot
  pub race : SavedAt s g carried.translation t.race race_slot
  pub unique_id : SavedAt s g carried.translation t.unique_id unique_id_slot
  pub country : bytes_at s t.country ≡ carried.country
  pub device_id : SavedAt s g carried.translation t.device_id device_id_slot

-- `translated_bit` is what stands in version 4's place for a translation, and in version 3 false
pub record FrontCarries (s : List ℕ) (g : Game) (carried : Carried) (t : Front) : Type 0 where
  pub translated_bit : Bool
  pub flags : t.flags ≡ marks_of g.header translated_bit
  pub sizes : t.sizes ≡ sizes_of g.header
  pub time : t.time ≡ g.header.rtime_ms
  pub span : t.span ≡ carried.span
  pub translated : t.translated ≡ carried.translated
  pub texts : TextsCarry s g carried t.texts

module _ (s : List ℕ) where
  pub marks-takes : (version a b : ℕ) → 3 ≤ version → a < 256 → b < 256
      → Takes s (flags version) (bytes_of 1 a ++ bytes_of 1 b) (λ m. m ≡ record { first = a; second = b })
  unfolding flags
  marks-takes version a b v ha hb =
      rw (le-leb 3 version v)
      (then s _ (number-takes s 1 a ha) (λ n e. last s _ (number-takes s 1 b hb) (λ m f. rw (e, f))))

  module _ (h : Header) (w : SizesFit h) where
    pub sizes-takes : Takes s sizes (sizes_bytes h) (λ v. v ≡ sizes_of h)
    unfolding sizes
    sizes-takes =
        then s _ (number-takes s 1 h.height w.height) λ a ea.
        then s _ (number-takes s 1 h.width w.width) λ b eb.
        then s _ (number-takes s 2 h.mine_num w.mines) λ c ec.
        then s _ (number-takes s 1 h.cell_pixel_size w.cell_pixels) λ d ed.
        then s _ (number-takes s 2 h.mode w.mode) λ i ei.
        last s _ (number-takes s 2 h.bbbv w.bbbv) λ j ej.
        rw (ea, eb, ec, ed, ei, ej)

  pub board-takes : (g : Game) → SizesFit g.header
      → Takes s (board_bytes g.header.height g.header.width) (boardWritten g)
      (λ p. bytes_at s p ≡ packed (mine_at g.cells) (g.header.height * g.header.width))
  unfolding board_bytes boardWritten
  board-takes g w =
      let h = g.header in
      let mine = mine_at g.cells in
      rw (mod-eq_of_lt w.height, mod-eq_of_lt w.width)
      (then s _
      (when-takes s (eqb h.height 0) _ (ne_eqb h.height 0 (λ z. omega (arith, w.some_row)))) λ u _.
      bytes-takes s (packed mine (h.height * h.width)) _
      (sym (length-packed mine (h.height * h.width))))
