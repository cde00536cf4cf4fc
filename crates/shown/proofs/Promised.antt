-- From the parts to what is promised of the whole. Assumes nothing but that the file is bytes.
--     shows-game, shows-none   the two answers
--     shown-first              the first bytes of a buffer that is long enough are what is shown
use Prim.Native.Nat.{ℕ, ◌≤◌}
use mathlib.Core.Path.{◌≡◌, sym, ap, ◌∙◌}
use mathlib.Core.List.{List}
use native.Mathlib.Omega.{arith}
use lib.IntN.{ℤ}
use lib.ListN.{length, take}
use lib.Seq.{sets, take_at}
use Rattle.lists.proofs.Stores.{sets-front}
use Rattle.text.specs.declared.Place.{Place}
use Rattle.game.specs.declared.Header.{Header}
use Rattle.game.specs.declared.Event.{Event}
use Rattle.byte_reader.specs.Reading.{Bytes}
use Rattle.byte_writer.specs.Places.{Writes}
use Rattle.byte_writer.proofs.Laws.{writes_none, writes_as}
use Rattle.evf_video.specs.Reading.{Reading, game, none, reading_of, number_of, cells_at}
use Rattle.evf_video.specs.Parsed.{board_then}
use Rattle.shown.specs.Shown.{game_shown, reading_shown, shown_of}
use Rattle.shown.specs.declared.Shown.{Shown}
use Rattle.shown.specs.Shows.{most_shown, Shows}
use Rattle.shown.proofs.Small.{shown-small}

module _ (file : List ℕ) (b : List ℤ) (d : List ℕ) where
  pub shows-game : (h : Header) (place : Place) (es : List Event) {b' : List ℤ} {d' : List ℕ} {to events : ℕ}
      → Bytes file → reading_of file ≡ game h place es → events ≡ length es
      → Writes d d' 0 (game_shown file h (cells_at file h place) events) to
      → b' ≡ sets b 0 (cells_at file h place) → Shows file b b' d d' (record { to = to; refused = 0 })
  unfolding shown_of
  shows-game h place es {to = to} small is many w q =
      let whole : game_shown file h (cells_at file h place) (length es) ≡ shown_of file =
      ap (reading_shown file) (sym is) in
      let text = writes_as (ap (game_shown file h (cells_at file h place)) many ∙ whole) w in
      record {
        refused_is = ap number_of (sym is);
        writes = text;
        small = omega (arith, text.next, shown-small file small);
        board_is = q ∙ ap (λ (R : Reading). board_then file R b) (sym is);
      }

  pub shows-none : (n : ℕ) → reading_of file ≡ none n → Shows file b b d d (record { to = 0; refused = n })
  unfolding shown_of
  shows-none n is =
      record {
        refused_is = ap number_of (sym is);
        writes = writes_as (ap (reading_shown file) (sym is)) (writes_none d 0 (omega arith));
        small = omega arith;
        board_is = ap (λ (R : Reading). board_then file R b) (sym is);
      }

  pub shown-first : {b' : List ℤ} {d' : List ℕ} {r : Shown} → Bytes file → Shows file b b' d d' r
      → most_shown ≤ length d → take r.to d' ≡ shown_of file
  shown-first {d' = d'} {r} small w room =
      let n = shown-small file small in
      let to : length (shown_of file) ≡ r.to = omega (arith, w.writes.next) in
      ap (take r.to) (w.writes.is ∙ sets-front d (shown_of file) (omega arith))
      ∙ take_at (shown_of file) _ r.to to
