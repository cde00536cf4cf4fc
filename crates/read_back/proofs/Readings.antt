-- What is sure of a game that was read: all that its copy of version 4 asks for but that texts and events can
-- be said there. Assumes nothing but that the file is bytes.
--     read-types       its numbers and positions are of their types
--     read-holdable    and can be held; the board is lent, and may be any
--     read_plain       with its mouse events alone it is plain
--     only-mouse       which are all events of versions 0 to 3
use Prim.Native.Nat.{ℕ, ◌*◌, ◌≤◌, ◌<◌}
use mathlib.Core.Path.{◌≡◌, refl, sym, ap, subst, ◌∙◌}
use mathlib.Core.Bool.{true, false}
use mathlib.Core.List.{List, [], ◌∷◌}
use native.Mathlib.Omega.{arith}
use lib.Dec.{eqb}
use lib.Ieee.{Float}
use lib.IntN.{ℤ}
use lib.Seq.{get_or-set_other}
use borrow.Author.Tests.{eqb-true, eqb-false}
use Rattle.text.specs.declared.Place.{Place}
use Rattle.text.specs.Places.{absent, bytes_at}
use Rattle.board.specs.Geometry.{mines_in}
use Rattle.board.specs.Bits.{bit_at}
use Rattle.game.specs.declared.Event.{Event}
use Rattle.game.specs.declared.Event.TheVariants.{Mouse, State}
use Rattle.game.specs.declared.Header.{Header}
use Rattle.game.specs.Header.{translated_software_slot, original_encoding_slot, checksum_slot, place_at}
use Rattle.game.specs.Same.{text_of}
use Rattle.byte_reader.specs.Reading.{Bytes}
use Rattle.evf_header.proofs.Sound.{Sound}
use Rattle.evf_events.specs.declared.EventCursor.{EventCursor}
use Rattle.evf_events.specs.Start.{first_cursor}
use Rattle.evf_events.proofs.Old.{Old, none as no_old, mouse as old-mouse, old-events}
use Rattle.evf_events.proofs.Version4.{Rising, none as no_more, mouse as rising-mouse, state as rising-state}
use Rattle.evf_events.proofs.Version4.{Version4 as AllEvents, starts, all-events}
use Rattle.evf_events.proofs.Pixels.{SmallEvent, SmallStep, small-step}
use Rattle.evf_video.specs.Reading.{game, with_checksum, reading_of, game_read}
use Rattle.evf_video.proofs.Trace.{Trace, way as Way-of, sound as sound-of}
use Rattle.evf_video.proofs.Singly.{Singly, over, next, singly}
use Rattle.layout_fields.specs.Fields.{lent}
use Rattle.read_back.specs.Saved.{mouse_events, Places, none, mouse as placed, state as stated, Timed}
use Rattle.read_back.specs.Saved.{no_events, at_ms}
use Rattle.read_back.specs.Back.{Sayable, InTypes, Holdable}
use Rattle.read_back.proofs.Lent.{PlainReading}

-- EVENTS

-- milliseconds of 24 bits are milliseconds of 32
old_timed : (es : List Event) → Old es → Timed (mouse_events es)
old_timed es no_old = no_events
old_timed es (old-mouse {es = rest} e h o) = at_ms e (omega arith) (old_timed rest o)

old_only : (es : List Event) → Old es → mouse_events es ≡ es
old_only es no_old = refl
old_only es (old-mouse {x = x} {y = y} {s = s} {kind = kind} {es = rest} e h o) =
    ap (λ (l : List Event). Mouse s kind x y ∷ l) (old_only rest o)

rising_timed : {last : ℕ} {es : List Event} → Rising last es → Timed (mouse_events es)
rising_timed no_more = no_events
rising_timed (rising-mouse e l small u r) = at_ms e small (rising_timed r)
rising_timed (rising-state e l small r) = rising_timed r

new_timed : {es : List Event} → AllEvents es → Timed (mouse_events es)
new_timed (starts e l k r) = at_ms e (omega arith) (rising_timed r)

-- positions are of 16 bits
placed-before : (e : Event) (es : List Event) → SmallEvent e → Places es → Places (e ∷ es)
placed-before (Mouse s kind x y) es h p = placed h.0 h.1 p
placed-before (State s state) es h p = stated p

module _ (s : List ℕ) (small : Bytes s) where
  all_placed : {c : EventCursor} {es : List Event} → Singly s c es → Places es
  all_placed (over q) = none
  all_placed {c} (next {e = e} {es = es} q more) =
      placed-before e es (subst SmallStep q (small-step s small c)) (all_placed more)

  -- THE GAME
  module _ {h : Header} {board : Place} {es : List Event} (reads : reading_of s ≡ game h board es) where
    abbrev way : Trace s h board es
    way = Way-of s small reads

    abbrev sound : Sound s way.opened.header way.opened.board
    sound = sound-of s small reads

    positions : Places es
    positions = all_placed (singly s h board es reads)

    pub read-types : (cells : List ℤ) → InTypes (lent h s cells es)
    read-types cells =
        record {
          cell_pixels = rw way.header_is sound.pixels;
          mode = rw way.header_is sound.mode;
          time = rw way.header_is sound.time;
          start = rw way.header_is sound.start;
          end = rw way.header_is sound.end;
          metrics_count = rw way.header_is sound.metrics_count;
          positions = positions;
        }

    pub read-holdable : (toMs : Float → ℕ) (cells : List ℤ) → Sayable toMs (lent h s cells es)
        → Holdable toMs (lent h s cells es)
    read-holdable toMs cells says =
        let types = read-types cells in
        record {
          sizes = record {
            some_row = rw way.header_is sound.height_some;
            height = rw way.header_is sound.height;
            width = rw way.header_is sound.width;
            mines = rw way.header_is sound.mines;
            cell_pixels = types.cell_pixels;
            mode = types.mode;
            bbbv = rw way.header_is sound.bbbv;
          };
          time = types.time;
          start = types.start;
          end = types.end;
          metrics_count = types.metrics_count;
          positions = positions;
          says = says;
        }

    -- the checksum leaves the other texts where they are
    empty : (slot : ℕ) → slot < checksum_slot → place_at way.opened.header slot ≡ absent
        → text_of (game_read s h board (mouse_events es)) slot ≡ []
    empty slot l e =
        ap (λ (k : Header). bytes_at s (place_at k slot)) way.header_is
        ∙ ap (bytes_at s)
        (get_or-set_other way.opened.header.texts checksum_slot slot way.sum absent
        (λ q. omega (arith, q, l)) ∙ e)

    -- what is known of one version or the other
    record Own : Type 0 where
      no_translation : h.translated ≡ false
          → (place_at way.opened.header translated_software_slot ≡ absent)
          × (place_at way.opened.header original_encoding_slot ≡ absent)
      timed : Timed (mouse_events es)

    pub version-old : h.version < 4 → (Way-of s small reads).opened.header.version < 4
    version-old old = subst (λ (k : Header). k.version < 4) way.header_is old

    olds : h.version < 4 → Old es
    olds old = old-events s small (first_cursor way.opened.header.version way.at) (version-old old)
        way.runs

    pub only-mouse : h.version < 4 → mouse_events es ≡ es
    only-mouse old = old_only es (olds old)

    own_old : h.version < 4 → Own
    own_old old =
        let o = sound.old (version-old old) in
        record {
          no_translation = λ t. (o.no_translation, o.no_encoding);
          timed = old_timed es (olds old);
        }

    own_new : h.version ≡ 4 → Own
    own_new new =
        let v : way.opened.header.version ≡ 4 =
        sym (ap (λ (k : Header). k.version) way.header_is) ∙ new in
        record {
          no_translation = λ t. (sound.new v).no_translation
              (sym (ap (λ (k : Header). k.translated) way.header_is) ∙ t);
          timed = new_timed (all-events s small (first_cursor way.opened.header.version way.at) v refl
              way.runs);
        }

    own : Own
    own =
        (elim (eqb h.version 4) as (λ b. eqb h.version 4 ≡ b → Own) [
          | true ↦ λ e. own_new (eqb-true h.version 4 e)
          | false ↦ λ e. own_old (omega (arith, known, eqb-false h.version 4 e))
        ])
        refl
      where
        known : h.version ≤ 4
        known = subst (λ (k : Header). k.version ≤ 4) (sym way.header_is) sound.version

    pub read_plain : PlainReading s h board (mouse_events es)
    read_plain =
        let k = with_checksum way.opened.header way.sum in
        let found : k.mines_found ≡ mines_in (bit_at (bytes_at s board)) (k.height * k.width) =
        sound.found ∙ ap (λ (p : Place). mines_in (bit_at (bytes_at s p)) (k.height * k.width))
        (sym way.board_is)
        in
        record {
          level = rw way.header_is sound.level;
          mines_found = rw way.header_is found;
          no_translation = λ t. empty translated_software_slot (omega arith) (own.no_translation t).0;
          no_encoding = λ t. empty original_encoding_slot (omega arith) (own.no_translation t).1;
          timed = own.timed;
        }
