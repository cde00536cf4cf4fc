-- A game of a file before its first event, from what the callees say. Assumes nothing.
--     starts-short, starts-refused    it is refused, and nothing is changed
--     starts-fine    it is not
--     reads_board    the board then
use Prim.Native.Nat.{ℕ, ◌*◌, ◌≤◌, ◌<◌}
use mathlib.Core.Path.{◌≡◌, sym, ap, ◌∙◌}
use mathlib.Core.List.{List, foldl}
use lib.IntN.{ℤ}
use lib.ListN.{length}
use lib.Seq.{length-sets}
use borrow.Author.Tests.{lt-ltb, le-ltb, le-leb}
use Rattle.text.specs.declared.Place.{Place}
use Rattle.text.specs.Places.{bytes_at}
use Rattle.board.specs.Bits.{bit_at}
use Rattle.board.specs.Geometry.{board_after}
use Rattle.game.specs.declared.Event.{Event}
use Rattle.game.specs.declared.Header.{Header}
use Rattle.game.specs.Refusals.{board_buffer_short}
use Rattle.evf_video.specs.Reading.{cells_at}
use Rattle.buttons.specs.declared.Buttons.{Buttons}
use Rattle.buttons.specs.Pressing.{none_down, pressed}
use Rattle.moves.specs.declared.Position.{Position}
use Rattle.playing.specs.Beginning.{refusal_at, refused_at, begun_at, covered_at}
use Rattle.playing.proofs.Refusing.{playable}
use Rattle.playing.proofs.Beginning.{begun-refused, covered-refused, begun-fine}
use Rattle.file_play.specs.FilePlay.{sizes_of, board_read, unless_refused}
use Rattle.file_play.specs.Starting.{start_at, start_cells, StartsGame}

module _ (file : List ℕ) (h : Header) (place : Place) (es : List Event) (board : List ℤ) (cells : List ℕ)
  where
    abbrev B : List ℤ
    B = board_read file h place board

    abbrev pixels : ℕ
    pixels = h.cell_pixel_size

    abbrev Starts : Position → List ℤ → List ℕ → Type 0
    Starts = StartsGame file h place es board cells

    pub starts-short : {r : Position} → length board < h.height * h.width → r ≡ refused_at board_buffer_short
        → Starts r board cells
    unfolding start_at start_cells
    starts-short {r} l e = record {
      is = rw (lt-ltb (length board) (h.height * h.width) l) e;
      board_is = sym (ap (λ (p : Position). unless_refused p.stands board B) e);
      cells_is = rw (lt-ltb (length board) (h.height * h.width) l);
    }

    module _ (l : h.height * h.width ≤ length board) (b : Buttons) (q : b ≡ foldl pressed none_down es) where
      pub start-long : start_at file h place es board cells ≡ begun_at (sizes_of h) pixels B b cells
      unfolding start_at
      start-long = rw (le-ltb (length board) (h.height * h.width) l, q)

      pub cells-long : start_cells file h place es board cells ≡ covered_at (sizes_of h) pixels B b cells
      unfolding start_cells
      cells-long = rw (le-ltb (length board) (h.height * h.width) l, q)

      -- the board that is read is as long as the lent one
      refusal-same : refusal_at (sizes_of h) pixels (length board) (length cells) b
          ≡ refusal_at (sizes_of h) pixels (length B) (length cells) b
      refusal-same = ap (λ (n : ℕ). refusal_at (sizes_of h) pixels n (length cells) b)
          (sym (length-sets board 0 (cells_at file h place)))

      pub starts-refused : {r : Position} (n : ℕ)
          → n ≡ refusal_at (sizes_of h) pixels (length board) (length cells) b → (n ≡ 0 → ⊥) → r ≡ refused_at n
          → Starts r board cells
      starts-refused n e some f =
          record {
            is = f ∙ begun-refused (sizes_of h) pixels B b cells n (e ∙ refusal-same) some ∙ sym start-long;
            board_is = sym (ap (λ (p : Position). unless_refused p.stands board B) f);
            cells_is = covered-refused (sizes_of h) pixels B b cells n (e ∙ refusal-same) some ∙ sym cells-long;
          }

      pub starts-fine : {r : Position} {d : List ℤ} {k : List ℕ}
          → 0 ≡ refusal_at (sizes_of h) pixels (length board) (length cells) b → d ≡ B
          → r ≡ begun_at (sizes_of h) pixels d b cells → k ≡ covered_at (sizes_of h) pixels d b cells
          → Starts r d k
      starts-fine {r} {d} {k} e f g c =
          let can = playable h.height h.width pixels (length B) (length cells) b.chord
          (e ∙ refusal-same) in
          let r-is : r ≡ begun_at (sizes_of h) pixels B b cells =
          g ∙ ap (λ (x : List ℤ). begun_at (sizes_of h) pixels x b cells) f in
          record {
            is = r-is ∙ sym start-long;
            board_is = f ∙ sym (ap (λ (p : Position). unless_refused p.stands board B)
                (r-is ∙ begun-fine (sizes_of h) pixels B b cells can.none));
            cells_is = c ∙ ap (λ (x : List ℤ). covered_at (sizes_of h) pixels x b cells) f ∙ sym cells-long;
          }

-- a board that is long enough holds the game's cells once it was read into
pub reads_board : (file : List ℕ) (h : Header) (place : Place) (board : List ℤ) {d : List ℤ} {bits : List ℕ}
    → h.height * h.width ≤ length board → bits ≡ bytes_at file place
    → d ≡ board_after (bit_at bits) h.height h.width board → d ≡ board_read file h place board
unfolding board_after
reads_board file h place board l e q = q ∙ rw (e, le-leb (h.height * h.width) (length board) l)
