-- What is sure of the front of versions 0 to 3: numbers fit their widths, texts end in the file and hold no
-- 00, and which of them are UTF-8. Assumes nothing but that the file is bytes.
use Prim.Native.Nat.{ℕ, ◌<◌}
use mathlib.Core.Path.{◌≡◌, refl}
use mathlib.Core.Bool.{not}
use mathlib.Core.List.{List}
use native.Mathlib.Omega.{arith}
use lib.Dec.{leb}
use borrow.Author.Tests.{leb-true}
use Rattle.text.specs.Places.{absent, bytes_at}
use Rattle.times.specs.declared.GameMs.{GameMs}
use Rattle.byte_reader.specs.Reading.{Bytes}
use Rattle.header_fields.specs.declared.Front.{Front}
use Rattle.header_fields.proofs.Sure.{Sure, Text, Utf8, sure-then, sure-pure, sure-weaken, sure-if}
use Rattle.header_fields.proofs.Sure.{sure-refuse, sure-contents, sure-text, sure-utf8-text, sure-number}
use Rattle.header_fields.proofs.Fits.{SpanFits, FrontIs, sizes-sure, flags-sure}
use Rattle.header_software.specs.declared.Times.{Times}
use Rattle.header_software.specs.declared.Times.TheVariants.{Known, Refused}
use Rattle.header_software.specs.Software.{begins_with, yuan_name, times_of}
use Rattle.header_software.proofs.Fits.{TimesFit, times_fit}
use Rattle.header_v0_v3.specs.declared.OldTexts.{OldTexts}
use Rattle.header_v0_v3.specs.Front.{old_texts, known, old_times, old_device, old_front}

pub record OldTextsAre (s : List ℕ) (t : OldTexts) : Type 0 where
  pub software : Utf8 s t.software
  pub player : Text s t.player
  pub race : Text s t.race
  pub id : Text s t.unique_id
  pub start : Utf8 s t.start
  pub end : Utf8 s t.end

-- what these versions tell besides sizes and span
pub record OldIs (s : List ℕ) (version : ℕ) (t : Front) : Type 0 where
  pub software : Utf8 s t.texts.software
  pub player : Text s t.texts.player
  pub race : Text s t.texts.race
  pub id : Text s t.texts.unique_id
  pub country : Text s t.texts.country
  pub device : Text s t.texts.device_id
  pub no_translation : t.texts.translated_software ≡ absent
  pub no_encoding : t.texts.original_encoding ≡ absent
  pub no_device : version < 2 → t.texts.device_id ≡ absent
  pub translated : t.translated ≡ not (begins_with yuan_name (bytes_at s t.texts.software))
  pub second : version < 3 → t.flags.second ≡ 0
  pub time : t.time.0 < 16777216

module _ (s : List ℕ) where
  known-sure : (t : Times) → TimesFit t → Sure s (known t) SpanFits
  unfolding TimesFit
  known-sure (Known span) h = sure-pure s span h
  known-sure (Refused n) h = sure-refuse s n h

  old-times-sure : (words : OldTexts) (time : GameMs) → Sure s (old_times words time) SpanFits
  unfolding old_times
  old-times-sure words time =
      sure-then s _ (sure-contents s words.software) (λ software a.
      sure-then s _ (sure-contents s words.start) (λ start b.
      sure-then s _ (sure-contents s words.end) (λ end e.
      known-sure (times_of software start end time) (times_fit software start end time))))

  old-texts-sure : Sure s old_texts (OldTextsAre s)
  unfolding old_texts
  old-texts-sure =
      sure-then s _ (sure-utf8-text s) (λ software a.
      sure-then s _ (sure-text s) (λ player b.
      sure-then s _ (sure-text s) (λ race c.
      sure-then s _ (sure-text s) (λ id d.
      sure-then s _ (sure-utf8-text s) (λ start e.
      sure-then s _ (sure-utf8-text s) (λ end f.
      sure-pure s _ (record { software = a; player = b; race = c; id = d; start = e; end = f })))))))

  -- an absent text is an empty one
  no_text : Text s absent
  no_text = (omega arith, refl)

  old-device-sure : (version : ℕ) → Sure s (old_device version) (λ p. Text s p × (version < 2 → p ≡ absent))
  unfolding old_device
  old-device-sure version =
      sure-if s (leb 2 version) _ _
      (λ e. sure-weaken s (sure-text s) (λ p t. (t, λ h. absurd (omega (arith, leb-true 2 version e)))))
      (λ e. sure-pure s absent (no_text, λ h. refl))

module _ (s : List ℕ) (small : Bytes s) where
  pub old-sure : (version : ℕ) → Sure s (old_front version) (λ t. FrontIs s t × OldIs s version t)
  unfolding old_front
  old-sure version =
      sure-then s _ (flags-sure s small version) (λ marks f.
      sure-then s _ (sizes-sure s small) (λ size z.
      sure-then s _ (sure-number s small 3) (λ ms m.
      sure-then s _ (old-texts-sure s) (λ words w.
      sure-then s _ (old-times-sure s words (record { 0 = ms })) (λ span p.
      sure-then s _ (sure-text s) (λ country c.
      sure-then s _ (old-device-sure s version) (λ device d.
      sure-then s _ (sure-contents s words.software) (λ software e.
      sure-pure s _ (
        record {
          sizes = z;
          time = omega arith;
          span = p;
          texts_in = (
            w.software.0.0,
            (
              omega arith,
              (omega arith, (w.player.0, (w.race.0, (w.id.0, (c.0, (d.0.0, (omega arith, tt))))))),
            ),
          );
        },
        record {
          software = w.software;
          player = w.player;
          race = w.race;
          id = w.id;
          country = c;
          device = d.0;
          no_translation = refl;
          no_encoding = refl;
          no_device = d.1;
          translated = rw e;
          second = f;
          time = m;
        },
      )))))))))
