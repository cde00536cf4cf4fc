-- A game that was read into a lent board, as the upgrade writes it: the first cells are those read, and
-- whatever stands behind them does not matter. Assumes nothing.
--     on-board      on its board it is the game that was read
--     lent-plain    and it is plain, where the reading has level, mines found, texts and row of a plain game
use Prim.Native.Nat.{ℕ, ◌*◌, ◌≤◌, ◌<◌}
use mathlib.Core.Path.{◌≡◌, sym, ap, ◌∙◌}
use mathlib.Core.Bool.{Bool, false}
use mathlib.Core.List.{List, []}
use lib.IntN.{ℤ}
use lib.ListN.{length, take}
use lib.Seq.{sets}
use Rattle.lists.proofs.Stores.{sets_first}
use Rattle.text.specs.declared.Place.{Place}
use Rattle.text.specs.Places.{bytes_at}
use Rattle.board.specs.Geometry.{mine_at, mines_in}
use Rattle.board.specs.Bits.{bit_at}
use Rattle.board.proofs.Cells.{read_mines}
use Rattle.board.proofs.Same.{cells_same, length-cells}
use Rattle.board.proofs.Packed.{mines_in_same}
use Rattle.game.specs.declared.Event.{Event}
use Rattle.game.specs.declared.Header.{Header}
use Rattle.game.specs.Header.{level_of, translated_software_slot, original_encoding_slot}
use Rattle.game.specs.Same.{text_of}
use Rattle.evf_video.specs.Reading.{cells_at, game_read}
use Rattle.layout_fields.specs.Fields.{lent}
use Rattle.read_back.specs.Saved.{Timed}
use Rattle.read_back.specs.Back.{on_board, Plain4}

-- what is known of a reading beside its cells
pub record PlainReading (file : List ℕ) (h : Header) (place : Place) (es : List Event) : Type 0 where
  pub level : h.level ≡ level_of h.height h.width h.mine_num
  pub mines_found : h.mines_found ≡ mines_in (bit_at (bytes_at file place)) (h.height * h.width)
  pub no_translation : h.translated ≡ false → text_of (game_read file h place es) translated_software_slot ≡ []
  pub no_encoding : h.translated ≡ false → text_of (game_read file h place es) original_encoding_slot ≡ []
  pub timed : Timed es

module _ (file : List ℕ) (h : Header) (place : Place) (es : List Event) (d : List ℤ)
    (room : h.height * h.width ≤ length d) where
  mine : ℕ → Bool
  mine = bit_at (bytes_at file place)

  -- the lent board then
  board : List ℤ
  board = sets d 0 (cells_at file h place)

  cells-first : take (h.height * h.width) board ≡ cells_at file h place
  unfolding board
  cells-first =
      let xs = cells_at file h place in
      let n : length xs ≡ h.height * h.width =
      length-cells (bit_at (bytes_at file place)) h.height h.width in
      sets_first d xs (h.height * h.width) n room

  mines-same : (k : ℕ) → k < h.height * h.width → mine_at board k ≡ mine k
  unfolding board mine
  mines-same k l = read_mines (bit_at (bytes_at file place)) h.height h.width d k room l

  pub on-board : on_board (lent h file (sets d 0 (cells_at file h place)) es) ≡ game_read file h place es
  unfolding board
  on-board = ap (λ (c : List ℤ). lent h file c es) cells-first

  pub lent-plain : PlainReading file h place es → Plain4 (lent h file (sets d 0 (cells_at file h place)) es)
  unfolding board mine
  lent-plain p =
      record {
        plain = record {
          numbers = cells-first ∙ sym (cells_same h.height h.width (mine_at board) mine mines-same);
          level = p.level;
          mines_found =
              p.mines_found ∙ sym (mines_in_same (mine_at board) mine (h.height * h.width) mines-same);
          timed = p.timed;
        };
        no_translation = p.no_translation;
        no_encoding = p.no_encoding;
      }
