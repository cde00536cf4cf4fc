-- What is sure of the front of version 4: numbers fit their widths, texts end in the file, are UTF-8 and hold
-- no 00, but for the device id. Assumes nothing but that the file is bytes.
use Prim.Native.Nat.{ℕ, ◌<◌}
use mathlib.Core.Path.{◌≡◌, refl}
use mathlib.Core.Bool.{Bool, true, false}
use mathlib.Core.List.{List}
use native.Mathlib.Omega.{arith}
use Rattle.text.specs.declared.Place.{Place}
use Rattle.text.specs.Places.{absent, bytes_at, Inside}
use Rattle.text.specs.Utf8.{utf8}
use Rattle.byte_reader.specs.Reading.{Bytes}
use Rattle.header_fields.specs.declared.Texts.{Texts}
use Rattle.header_fields.specs.declared.Front.{Front}
use Rattle.header_fields.specs.Fields.{flag}
use Rattle.header_fields.proofs.Sure.{Sure, Utf8, sure-then, sure-pure, sure-weaken, sure-counted}
use Rattle.header_fields.proofs.Sure.{sure-utf8-text, sure-utf8-bytes, sure-number}
use Rattle.header_fields.proofs.Fits.{FrontIs, sizes-sure, flags-sure}
use Rattle.header_v4.specs.declared.Translation.{Translation}
use Rattle.header_v4.specs.Front.{both_texts, translation, new_texts, new_front}

-- two UTF-8 texts, or none
pub record TwoAre (s : List ℕ) (translated : Bool) (two : Translation) : Type 0 where
  pub both : translated ≡ true → Utf8 s two.software × Utf8 s two.encoding
  pub neither : translated ≡ false → (two.software ≡ absent) × (two.encoding ≡ absent)

pub record NewTextsAre (s : List ℕ) (translated : Bool) (t : Texts) : Type 0 where
  pub software : Utf8 s t.software
  pub two : TwoAre s translated
      (record { software = t.translated_software; encoding = t.original_encoding })
  pub player : Utf8 s t.player
  pub race : Utf8 s t.race
  pub id : Utf8 s t.unique_id
  pub device_in : Inside s t.device_id
  pub device_len : t.device_id.len < 65536

pub record NewIs (s : List ℕ) (t : Front) : Type 0 where
  pub texts : NewTextsAre s t.translated t.texts
  pub country_in : Inside s t.texts.country
  pub country_len : t.texts.country.len ≡ 2
  pub country_utf8 : utf8 (bytes_at s t.texts.country) ≡ true

two_in : (s : List ℕ) (translated : Bool) {two : Translation} → TwoAre s translated two
    → Inside s two.software × Inside s two.encoding
two_in s true h = ((h.both refl).0.0.0, (h.both refl).1.0.0)
two_in s false h = (rw (h.neither refl).0 (omega arith), rw (h.neither refl).1 (omega arith))

module _ (s : List ℕ) where
  both-texts-sure : Sure s both_texts (λ two. Utf8 s two.software × Utf8 s two.encoding)
  unfolding both_texts
  both-texts-sure = sure-then s _ (sure-utf8-text s)
      (λ software a. sure-then s _ (sure-utf8-text s) (λ encoding b. sure-pure s _ (a, b)))

  translation-sure : (translated : Bool) → Sure s (translation translated) (TwoAre s translated)
  unfolding translation
  translation-sure true =
      sure-weaken s both-texts-sure
      (λ two h. record { both = λ e. h; neither = λ e. let z : ◌≡◌ {A = ℕ} 0 1 = cc in absurd (omega arith) })
  translation-sure false =
      sure-pure s _
      (record {
        both = λ e. let z : ◌≡◌ {A = ℕ} 0 1 = cc in
            absurd (omega arith);
        neither = λ e. (refl, refl);
      })

module _ (s : List ℕ) (small : Bytes s) where
  new-texts-sure : (country : Place) (translated : Bool)
      → Sure s (new_texts country translated) (λ t. NewTextsAre s translated t × (t.country ≡ country))
  unfolding new_texts
  new-texts-sure country translated =
      sure-then s _ (sure-utf8-text s) (λ software a.
      sure-then s _ (translation-sure s translated) (λ two b.
      sure-then s _ (sure-utf8-text s) (λ player c.
      sure-then s _ (sure-utf8-text s) (λ race d.
      sure-then s _ (sure-utf8-text s) (λ id e.
      sure-then s _ (sure-counted s small) (λ device f.
      sure-pure s _ (
        record { software = a; two = b; player = c; race = d; id = e; device_in = f.0; device_len = f.1 },
        refl,
      )))))))

  pub new-sure : Sure s new_front (λ t. FrontIs s t × NewIs s t)
  unfolding new_front
  new-sure =
      sure-then s _ (flags-sure s small 4) (λ marks f.
      sure-then s _ (sizes-sure s small) (λ size z.
      sure-then s _ (sure-number s small 4) (λ ms m.
      sure-then s _ (sure-utf8-bytes s 2) (λ country c.
      sure-then s _ (sure-number s small 8) (λ start a.
      sure-then s _ (sure-number s small 8) (λ end b.
      sure-then s _ (new-texts-sure country (flag marks.first 0x08)) (λ words w.
      sure-pure s _ (
        record {
          sizes = z;
          time = m;
          span = record { start = a; end = b };
          texts_in =
              let t = w.0 in
              let two = two_in s (flag marks.first 0x08) t.two in (
                t.software.0.0,
                (
                  two.0,
                  (
                    two.1,
                    (
                      t.player.0.0,
                      (
                        t.race.0.0,
                        (t.id.0.0, (rw w.1 c.0.0, (t.device_in, (omega arith, tt)))),
                      ),
                    ),
                  ),
                ),
              );
        },
        record {
          texts = w.0;
          country_in = rw w.1 c.0.0;
          country_len = rw w.1 c.0.1;
          country_utf8 = rw w.1 c.1;
        },
      ))))))))
