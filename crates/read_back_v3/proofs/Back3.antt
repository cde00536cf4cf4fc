-- THE STATEMENTS OF specs/Back3.antt, by what the contract of the version 3 writer says. Assumes nothing.
use Prim.Native.Nat.{ℕ, ◌+◌, ◌≤◌}
use mathlib.Core.Path.{◌≡◌, refl, sym, ap, subst, ◌∙◌}
use mathlib.Core.Bool.{Bool, true, false, ◌||◌, true≢false}
use mathlib.Core.List.{List, [], ◌∷◌, ◌++◌, append-nil}
use native.Mathlib.Omega.{arith}
use lib.Dec.{eqb, ltb}
use lib.Ieee.{Float}
use lib.ListN.{length, take, length-append}
use lib.Seq.{drop-append_seam}
use borrow.Author.Tests.{ltb-false, not-false}
use Rattle.text.specs.Bytes.{all, non_zero}
use Rattle.times.specs.Times.{seconds_of, s_to_ms}
use Rattle.times.proofs.Seconds.{ms_small, round_trip}
use Rattle.game.specs.declared.Event.{Event}
use Rattle.game.specs.declared.Event.TheVariants.{Mouse, State}
use Rattle.game.specs.Header.{country_slot, device_id_slot, checksum_slot}
use Rattle.game.specs.Limits.{largest_u24, checksum_length}
use Rattle.game.specs.Same.{Game, text_of, SameGame}
use Rattle.game.proofs.Same.{same_sym, same_trans}
use Rattle.header_fields.specs.declared.Span.{Span}
use Rattle.header_fields.specs.Fields.{span_of}
use Rattle.header_software.specs.declared.Times.{Times}
use Rattle.header_software.specs.declared.Times.TheVariants.{Known, Refused}
use Rattle.byte_reader.proofs.Laws.{Stands}
use Rattle.evf_events.specs.Start.{first_cursor}
use Rattle.evf_video.specs.Reading.{Reading, game, none, reading_of, game_read}
use Rattle.mouse_records.specs.Records.{nothing_yet, row_bytes}
use Rattle.evf_records.specs.Refusals.{too_late, event_unwritable}
use Rattle.judging_texts.specs.Texts.{text_bad, holds00, texts_bad, lengths_bad}
use Rattle.layout_v3.proofs.Back.{Holdable3}
use Rattle.evf_layout.specs.Layout.{file_of}
use Rattle.fields_back.specs.Carried.{times_read, carried3}
use Rattle.read_back.specs.Saved.{saved_events, Timed, no_events, at_ms, saved_as}
use Rattle.read_back.specs.Back.{on_board}
use Rattle.read_back.proofs.Events.{neither}
use Rattle.read_back.proofs.Checks.{Passes, passes, fine_sizes, shared_words, text_word}
use Rattle.read_back.proofs.Accepted.{Wrote, wrote}
use Rattle.read_back.proofs.Whole.{as_same, carried_same}
use Rattle.read_back_v3.specs.Back3.{EventsBack, end_code, WriteCall, written, ReadsBack3, FileBack}
use Rattle.read_back_v3.specs.Back3.{FileRefused, Plain3, SameBack, OnlySame}
use Rattle.read_back_v3.proofs.Events3 as events
use Rattle.read_back_v3.proofs.Times3.{kept_read, read_kept, refused-number}
use Rattle.read_back_v3.proofs.Whole3.{file-back, file-refused}

-- EVENTS
pub events_back : EventsBack
unfolding event_unwritable
events_back rule row places fits before follows after =
    let bytes = row_bytes (s_to_ms rule) 3 nothing_yet row in
    let rest = bytes ++ end_code follows ∷ after in
    events.events_back (before ++ rest) (s_to_ms rule) places (first_cursor 3 (length before)) refl nothing_yet
    follows fits
    (record {
      start = omega (arith, length-append before rest);
      here = drop-append_seam before rest;
    })

-- AN ACCEPTED CALL
module _ (c : WriteCall) where
  abbrev lent : Game
  lent = c.game

  abbrev toMs : Float → ℕ
  toMs = s_to_ms c.rule

  wrote-all : Wrote c.rule 3 lent c.file c.length
  wrote-all = wrote c.rule 3 lent c.file (sym c.promised.answer_is ∙ c.accepted)

  written_is : written c ≡ file_of toMs 3 lent
  written_is = ap (take c.length) c.promised.file_is ∙ wrote-all.first

  stands : Stands (written c) 0 (file_of toMs 3 lent) []
  stands = record { start = omega arith; here = written_is ∙ sym (append-nil (file_of toMs 3 lent)) }

  passed : Passes toMs 3 lent
  passed = passes toMs 3 lent wrote-all.fine

  holdable : Holdable3 lent
  unfolding texts_bad
  holdable =
      let h = lent.header in
      let texts = neither _ _ passed.texts in
      let words = shared_words lent texts.0 in
      let own = neither (text_bad (text_of lent country_slot)) (holds00 (text_of lent device_id_slot)) texts.1 in
      let late = ltb largest_u24 h.rtime_ms.0 in
      let mines = neither (ltb 65535 h.mine_num) (ltb 65535 h.bbbv || late) passed.numbers in
      let bbbv = neither (ltb 65535 h.bbbv) late mines.1 in
      record {
        sizes = fine_sizes toMs 3 lent passed c.types;
        time = omega (arith, ltb-false largest_u24 h.rtime_ms.0 bbbv.1);
        software = words.software;
        player = words.player.free;
        race = words.race.free;
        unique_id = words.unique_id.free;
        country = (text_word (text_of lent country_slot) own.0).free;
        device_id = not-false (all non_zero (text_of lent device_id_slot)) own.1;
      }

  in-time : too_late toMs lent.events ≡ false
  unfolding event_unwritable
  in-time = passed.events

  none-or-32 : let n = length (text_of lent checksum_slot) in (eqb n 0 || eqb n checksum_length) ≡ true
  unfolding lengths_bad
  none-or-32 = not-false _ passed.lengths

  saved : (span : Span) → times_read lent ≡ Known span
      → ReadsBack3 (written c) (saved_as 3 (carried3 span lent) toMs lent)
  saved = file-back toMs lent holdable (written c) [] stands c.types.positions in-time none-or-32

  refused : (n : ℕ) → times_read lent ≡ Refused n → reading_of (written c) ≡ none n
  refused = file-refused toMs lent holdable (written c) [] stands

  -- THE GAME ITSELF
  same : Plain3 lent → ReadsBack3 (written c) (on_board lent)
  same p =
      let span = span_of lent.header.start_time.0 lent.header.end_time.0 in
      as_same (written c) (saved_as 3 (carried3 span lent) toMs lent) (on_board lent)
      (saved span (kept_read lent c.types.start c.types.end p.times))
      (carried_same toMs (round_trip c.rule) 3 lent (carried3 span lent) p.plain refl refl (sym
      p.translated)
      (λ _. p.no_translation) (λ _. p.no_encoding) (sym p.no_count) (sym p.no_metrics))

-- NO OTHER GAME

-- what a reading is
abbrev is_game : Reading → Bool
is_game (game h place es) = true
is_game (none n) = false

abbrev game_in : (file : List ℕ) (other : Game) → Reading → Game
game_in file other (game h place es) = game_read file h place es
game_in file other (none n) = other

-- a row that is saved as itself has mouse events only, at whole milliseconds
no_longer : (rule : ℕ) (row : List Event) → length (saved_events (s_to_ms rule) row) ≤ length row
no_longer rule [] = omega arith
no_longer rule (Mouse t kind x y ∷ es) = omega (arith, no_longer rule es)
no_longer rule (State t state ∷ es) = omega (arith, no_longer rule es)

timed : (rule : ℕ) (row : List Event) → saved_events (s_to_ms rule) row ≡ row → Timed row
timed rule [] e = no_events
timed rule (Mouse t kind x y ∷ es) e =
    let first : ◌≡◌ {A = Event} (Mouse (seconds_of (s_to_ms rule t)) kind x y) (Mouse t kind x y) = cc in
    let seconds : t ≡ seconds_of (s_to_ms rule t) = cc in
    let rest : saved_events (s_to_ms rule) es ≡ es = cc in
    at_ms seconds (ms_small rule t) (timed rule es rest)
timed rule (State t state ∷ es) e = absurd (omega (arith, ap length e, no_longer rule es))

module _ (c : WriteCall) (b : ReadsBack3 (written c) (on_board c.game)) where
  -- one file has one reading, so the game as it is saved is the game itself
  one-reading : (span : Span) → times_read c.game ≡ Known span
      → SameGame (saved_as 3 (carried3 span c.game) (s_to_ms c.rule) c.game) (on_board c.game)
  one-reading span e =
      let g = c.game in
      let file = written c in
      let k = saved_as 3 (carried3 span g) (s_to_ms c.rule) g in
      let a = saved c span e in
      let first = game_read file a.header a.board a.events in
      let second = game_read file b.header b.board b.events in
      let is : second ≡ first = ap (game_in file g) (sym b.reads ∙ a.reads) in
      same_trans k first (on_board g) (same_sym first k a.same)
      (subst (λ (l : Game). SameGame l (on_board g)) is b.same)

  kept : (t : Times) → times_read c.game ≡ t → Plain3 c.game
  kept (Known span) e =
      let g = c.game in
      let s = one-reading span e in
      record {
        plain = record {
          numbers = sym s.cells;
          level = sym s.level;
          mines_found = sym s.mines_found;
          timed = timed c.rule g.events s.events;
        };
        times = read_kept g c.types.start c.types.end e s.start s.end;
        translated = sym s.translated;
        no_translation = sym s.translated_software;
        no_encoding = sym s.original_encoding;
        no_count = sym s.metrics_count;
        no_metrics = sym s.metrics;
      }
  kept (Refused n) e = absurd (true≢false (ap is_game (sym b.reads ∙ refused c n e)))

-- THE PAGE
pub files_back : FileBack
files_back = saved

pub files_refused : FileRefused
files_refused c n e = (refused c n e, refused-number c.game c.types.start c.types.end e)

pub same_back : SameBack
same_back = same

pub only_same : OnlySame
only_same c b = kept c b (times_read c.game) refl
