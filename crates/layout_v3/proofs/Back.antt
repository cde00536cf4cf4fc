-- WHAT VERSION 3 WRITES BEFORE THE BOARD IS READ (01, Header, "Version 3 writer"). Assumes nothing.
--     Holdable3        the games of which it holds: sizes, time and texts can be written
--     front-takes      flags, sizes, time and texts, each read as the field that it was written for
--     front-refuses    where start and end are refused, all is
--     read_order       what is written, in the order in which it is read
use Prim.Native.Nat.{ℕ, ◌+◌, ◌^◌, ◌<◌}
use mathlib.Core.Path.{◌≡◌, refl, sym, ap, ◌∙◌}
use mathlib.Core.Bool.{false, not}
use mathlib.Core.List.{List, [], ◌++◌, append_assoc, append-nil}
use native.Mathlib.Nat.{add-zero}
use native.Mathlib.Omega.{arith}
use Rattle.text.specs.Bytes.{NoZero}
use Rattle.text.specs.Places.{bytes_at}
use Rattle.text.specs.Decimals.{decimal_bytes}
use Rattle.text.proofs.Decimals.{decimal_no_zero, decimal_utf8}
use Rattle.text.specs.Words.{Word}
use Rattle.times.specs.declared.GameMs.{GameMs}
use Rattle.game.specs.Header.{software_slot, player_slot, race_slot, unique_id_slot, country_slot, device_id_slot}
use Rattle.game.specs.Same.{Game, text_of}
use Rattle.byte_reader.specs.Reading.{refuse}
use Rattle.byte_reader.specs.Numbers.{bytes_of}
use Rattle.byte_reader.proofs.Laws.{Takes, then, pure-takes, number-takes, text-takes, word-takes}
use Rattle.byte_writer.specs.Fields.{zero_ended}
use Rattle.header_fields.specs.declared.Span.{Span}
use Rattle.header_fields.specs.Fields.{flags}
use Rattle.header_software.specs.declared.Times.{Times}
use Rattle.header_software.specs.declared.Times.TheVariants.{Known, Refused}
use Rattle.header_software.specs.Software.{begins_with, yuan_name, times_of}
use Rattle.header_v0_v3.specs.declared.OldTexts.{OldTexts}
use Rattle.header_v0_v3.specs.Front.{old_texts, old_times, old_device, old_front}
use Rattle.layout_fields.specs.Fields.{first_flags, second_flags, start_bytes, board_bytes, text_bytes}
use Rattle.fields_back.specs.Fits.{SizesFit}
use Rattle.fields_back.specs.Carried.{times_read, carried3}
use Rattle.fields_back.proofs.Taken.{last, then-nothing, Refuses, then-refuses, refuses-then}
use Rattle.fields_back.proofs.Taken.{contents-takes}
use Rattle.fields_back.proofs.Flags.{first_small, second_small}
use Rattle.fields_back.proofs.Fields.{sizes_bytes, marks-takes, sizes-takes, FrontCarries}
use Rattle.layout_v3.specs.Version3.{texts3, front3}

-- software is read as UTF-8, the other texts as any bytes up to their 00
pub record Holdable3 (g : Game) : Type 0 where
  pub sizes : SizesFit g.header
  pub time : g.header.rtime_ms.0 < 2 ^ 24
  pub software : Word (text_of g software_slot)
  pub player : NoZero (text_of g player_slot)
  pub race : NoZero (text_of g race_slot)
  pub unique_id : NoZero (text_of g unique_id_slot)
  pub country : NoZero (text_of g country_slot)
  pub device_id : NoZero (text_of g device_id_slot)

-- THEIR BYTES

-- from the software to the end text
abbrev six_texts : Game → List ℕ
six_texts g =
    text_bytes g software_slot
    ++ (text_bytes g player_slot ++ (text_bytes g race_slot ++ (text_bytes g unique_id_slot ++
    (zero_ended (decimal_bytes g.header.start_time.0)
    ++ zero_ended (decimal_bytes g.header.end_time.0)))))

-- behind the version, up to the board, as it is read
abbrev pub to_board : Game → List ℕ
to_board g =
    let h = g.header in
    (bytes_of 1 (first_flags h) ++ bytes_of 1 (second_flags h))
    ++ (sizes_bytes h ++ (bytes_of 3 h.rtime_ms.0 ++ (six_texts g ++ (text_bytes g country_slot ++
    text_bytes g device_id_slot))))

-- a number in decimal can be ended by 00 and is UTF-8
digits : (n : ℕ) → Word (decimal_bytes n)
digits n = record { spelled = decimal_utf8 n; free = decimal_no_zero n }

-- WHAT IS READ
record SixAre (s : List ℕ) (g : Game) (t : OldTexts) : Type 0 where
  software : bytes_at s t.software ≡ text_of g software_slot
  player : bytes_at s t.player ≡ text_of g player_slot
  race : bytes_at s t.race ≡ text_of g race_slot
  unique_id : bytes_at s t.unique_id ≡ text_of g unique_id_slot
  start : bytes_at s t.start ≡ decimal_bytes g.header.start_time.0
  end : bytes_at s t.end ≡ decimal_bytes g.header.end_time.0

module _ (s : List ℕ) (g : Game) (w : Holdable3 g) where
  six-takes : Takes s old_texts (six_texts g) (SixAre s g)
  unfolding old_texts
  six-takes =
      then s _ (word-takes s (text_of g software_slot) w.software) λ a ea.
      then s _ (text-takes s (text_of g player_slot) w.player) λ b eb.
      then s _ (text-takes s (text_of g race_slot) w.race) λ c ec.
      then s _ (text-takes s (text_of g unique_id_slot) w.unique_id) λ d ed.
      then s _ (word-takes s (decimal_bytes g.header.start_time.0) (digits _)) λ i ei.
      last s _ (word-takes s (decimal_bytes g.header.end_time.0) (digits _)) λ j ej.
      record { software = ea; player = eb; race = ec; unique_id = ed; start = ei; end = ej }

  marks : Takes s (flags 3) (bytes_of 1 (first_flags g.header) ++ bytes_of 1 (second_flags g.header))
      (λ m. m ≡ record { first = first_flags g.header; second = second_flags g.header })
  marks = let h = g.header in
      marks-takes s 3 (first_flags h) (second_flags h) (omega arith) (omega (arith, first_small h false))
      (second_small h)

  module _ (t : OldTexts) (i : SixAre s g t) (time : GameMs) (e : time ≡ g.header.rtime_ms) where
    -- what start and end come to, by the texts that were read
    times-by : {a b c : List ℕ} {v : Times} → times_read g ≡ v → a ≡ bytes_at s t.software
        → b ≡ bytes_at s t.start → c ≡ bytes_at s t.end → times_of a b c time ≡ v
    times-by times ea eb ec = rw (ea, eb, ec, i.software, i.start, i.end, e) times

    -- no byte is read for them
    times-takes : (span : Span) → times_read g ≡ Known span → Takes s (old_times t time) [] (λ v. v ≡ span)
    unfolding old_times
    times-takes span times =
        then s _ (contents-takes s t.software) λ a ea.
        then s _ (contents-takes s t.start) λ b eb.
        then s _ (contents-takes s t.end) λ c ec.
        rw (times-by times ea eb ec) (pure-takes s span refl)

    times-refuses : (n : ℕ) → times_read g ≡ Refused n → Refuses s (old_times t time) [] n
    unfolding old_times refuse
    times-refuses n times =
        then-refuses s _ (contents-takes s t.software) λ a ea.
        then-refuses s _ (contents-takes s t.start) λ b eb.
        then-refuses s _ (contents-takes s t.end) λ c ec.
        rw (times-by times ea eb ec) (record { go = λ at r h. refl })

  pub front-takes : (span : Span) → times_read g ≡ Known span
      → Takes s (old_front 3) (to_board g) (FrontCarries s g (carried3 span g))
  unfolding old_front old_device
  front-takes span times =
      let h = g.header in
      then s _ marks λ m em.
      then s _ (sizes-takes s h w.sizes) λ n en.
      then s _ (number-takes s 3 h.rtime_ms.0 w.time) λ t et.
      then s _ six-takes λ six is.
      let time : record { 0 = t } ≡ h.rtime_ms = rw et in
      then s _ (times-takes six is (record { 0 = t }) time span times) λ v ev.
      then s _ (text-takes s (text_of g country_slot) w.country) λ k ek.
      then-nothing s _ (text-takes s (text_of g device_id_slot) w.device_id) λ d ed.
      last s _ (contents-takes s six.software) λ c ec.
      record {
        translated_bit = false;
        flags = em ∙ ap (λ n. record { first = n; second = second_flags h }) (sym (add-zero (first_flags h)));
        sizes = en;
        time = time;
        span = ev;
        translated = ap (λ (l : List ℕ). not (begins_with yuan_name l)) (ec ∙ is.software);
        texts = record {
          software = is.software;
          translated_software = refl;
          original_encoding = refl;
          player = is.player;
          race = is.race;
          unique_id = is.unique_id;
          country = ek;
          device_id = ed;
        };
      }

  pub front-refuses : (n : ℕ) → times_read g ≡ Refused n → Refuses s (old_front 3) (to_board g) n
  unfolding old_front
  front-refuses n times =
      let h = g.header in
      then-refuses s _ marks λ m em.
      then-refuses s _ (sizes-takes s h w.sizes) λ z ez.
      then-refuses s _ (number-takes s 3 h.rtime_ms.0 w.time) λ t et.
      then-refuses s _ six-takes λ six is.
      refuses-then s _ (times-refuses six is (record { 0 = t }) (rw et) n times)
      (text_bytes g country_slot ++ text_bytes g device_id_slot)

-- what is written, in the order in which it is read: no metrics stand behind the board
pub read_order : (g : Game) → bytes_of 1 3 ++ (to_board g ++ (board_bytes g ++ [])) ≡ front3 g
unfolding front3 start_bytes texts3
read_order g = simp (append_assoc, append-nil)
