-- A GAME THAT A FILE OF VERSION 4 READS AS CAN BE SAID THERE (01, Refusals 19 to 22 and 25): where texts,
-- metrics or events cannot be said, no file of version 4 reads as that game. Assumes nothing but that the
-- file is bytes, and of `toMs` that it gives whole milliseconds back.
--     read-sayable       whatever game a file of version 4 reads as
--     read_sayable_ms    the same with `s_to_ms`, by any rule
use Prim.Native.Nat.{ℕ, ◌^◌, ◌≤◌, ◌<◌}
use mathlib.Core.Path.{◌≡◌, refl, sym, ap, subst, ◌∙◌}
use mathlib.Core.Bool.{true, false}
use mathlib.Core.List.{List}
use native.Mathlib.Omega.{arith}
use lib.Ieee.{Float}
use lib.ListN.{length, drop, length-take}
use borrow.Author.Tests.{lt-ltb, le-ltb}
use Rattle.text.specs.declared.Place.{Place}
use Rattle.text.specs.Places.{bytes_at}
use Rattle.text.specs.Words.{Word}
use Rattle.times.specs.Times.{seconds_of, s_to_ms}
use Rattle.times.proofs.Seconds.{round_trip}
use Rattle.game.specs.declared.MouseKind.{MouseKind}
use Rattle.game.specs.declared.Event.{Event}
use Rattle.game.specs.declared.Header.{Header}
use Rattle.game.specs.Header.{software_slot, translated_software_slot, original_encoding_slot, player_slot}
use Rattle.game.specs.Header.{race_slot, unique_id_slot, device_id_slot, checksum_slot, place_at}
use Rattle.game.specs.Header.{block_at}
use Rattle.game.specs.Same.{Game, SameGame}
use Rattle.metrics.specs.Texts.{Texts}
use Rattle.byte_reader.specs.Reading.{Bytes}
use Rattle.header_fields.proofs.Sure.{Utf8}
use Rattle.evf_events.specs.Start.{first_cursor}
use Rattle.evf_events.proofs.Version4.{FirstKind, mv, lc, rc, pf, Rising, none, mouse, state}
use Rattle.evf_events.proofs.Version4.{Version4 as AllEvents, starts, all-events}
use Rattle.evf_video.specs.Reading.{game, reading_of, game_read}
use Rattle.evf_video.proofs.Answers.{version-4}
use Rattle.game.specs.Kinds.{begins}
use Rattle.evf_records.specs.Refusals.{is_ub, no_start, falls_after}
use Rattle.evf_records.proofs.KindTests.{not_ub}
use Rattle.read_back.specs.Back.{Sayable}
use Rattle.evf_video.proofs.Trace.{traced, metrics-texts}

-- EVENTS

first-begins : {kind : MouseKind} → FirstKind kind → (begins kind ≡ true) × (is_ub kind ≡ false)
first-begins mv = (refl, refl)
first-begins lc = (refl, refl)
first-begins rc = (refl, refl)
first-begins pf = (refl, refl)

module _ (toMs : Float → ℕ) (back : (ms : ℕ) → ms < 2 ^ 32 → toMs (seconds_of ms) ≡ ms) where
  -- a game state between two mouse events tells a time too, so the later one is no earlier than the first
  never-falls : {n : ℕ} {row : List Event} → Rising n row → (last : ℕ) → last ≤ n
      → falls_after toMs last row ≡ false
  never-falls none last h = refl
  never-falls (mouse {ms = ms} {kind = kind} {es = es} e l small u r) last h =
      rw (e, back ms small, not_ub kind u, le-ltb ms last (omega arith), never-falls r ms (omega arith))
  never-falls (state {ms = ms} {es = es} e l small r) last h = never-falls r last (omega arith)

  row-sayable : {row : List Event} → AllEvents row
      → (no_start toMs row ≡ false) × (falls_after toMs 0 row ≡ false)
  row-sayable (starts {ms = ms} {es = es} e l k r) =
      let b = first-begins k in
      let m : toMs (seconds_of ms) ≡ ms = back ms (omega arith) in (
        rw (e, m, b.0, lt-ltb ms 256 l),
        rw (e, m, b.1, le-ltb ms 0 (omega arith), never-falls r ms (omega arith)),
      )

  -- TEXTS AND EVENTS
  module _ (s : List ℕ) (small : Bytes s) {h : Header} {board : Place} {es : List Event}
      (reads : reading_of s ≡ game h board es) (new : h.version ≡ 4) where
    word : {t : List ℕ} (p : Place) → Utf8 s p → bytes_at s p ≡ t → Word t
    word p u e = subst Word e (record { spelled = u.1; free = u.0.1 })

    short : {t : List ℕ} (p : Place) → p.len < 65536 → bytes_at s p ≡ t → length t < 65536
    short p l e = subst (λ (t : List ℕ). length t < 65536) e
        (omega (arith, l, length-take p.len (drop p.start s)))

    metered : {n : ℕ} {b : List ℕ} → Texts h.metrics_count (block_at h s) → h.metrics_count ≡ n
        → block_at h s ≡ b → Texts n b
    metered t e f = subst (Texts _) f (subst (λ (n : ℕ). Texts n (block_at h s)) e t)

    events-are : AllEvents es
    events-are =
        let way = traced s reads in
        let v : way.opened.header.version ≡ 4 =
        sym (ap (λ (k : Header). k.version) way.header_is) ∙ new in
        all-events s small (first_cursor way.opened.header.version way.at) v refl way.runs

    pub read-sayable : (g : Game) → SameGame (game_read s h board es) g → Sayable toMs g
    read-sayable g same =
        let v = version-4 s small reads new in
        let t = v.texts in
        let rows = row-sayable (subst AllEvents same.events events-are) in
        record {
          software = word (place_at h software_slot) t.software same.software;
          translated_software =
              λ e. word (place_at h translated_software_slot) (t.translation (same.translated ∙ e)).0
              same.translated_software;
          original_encoding =
              λ e. word (place_at h original_encoding_slot) (t.translation (same.translated ∙ e)).1
              same.original_encoding;
          player = word (place_at h player_slot) t.player same.player;
          race = word (place_at h race_slot) t.race same.race;
          unique_id = word (place_at h unique_id_slot) t.id same.unique_id;
          device_id = omega (arith, short (place_at h device_id_slot) t.device_len same.device_id);
          checksum = short (place_at h checksum_slot) v.checksum-len same.checksum;
          metrics = metered (metrics-texts s small reads) same.metrics_count same.metrics;
          begins = rows.0;
          rises = rows.1;
        }

-- as seconds become milliseconds in a file
pub read_sayable_ms : (rule : ℕ) (s : List ℕ) → Bytes s → {h : Header} {board : Place} {es : List Event}
    → reading_of s ≡ game h board es → h.version ≡ 4
    → (g : Game) → SameGame (game_read s h board es) g → Sayable (s_to_ms rule) g
read_sayable_ms rule s small reads new = read-sayable (s_to_ms rule) (round_trip rule) s small reads new
