-- THE COPY OF A GAME THAT WAS READ, by the checks of version 4 (01, Refusals 14 to 22 and 25, "Version 4
-- writer and upgrade"). Assumes nothing but that files are bytes.
--     told             a game that was read is refused with 16, or with 19 to 22, and never with 25
-- Of versions 0 to 3:
--     kept             where nothing is refused, the copy reads as the game that was read
--     lost             where 19 to 22 is told, no file of version 4 does
--     least-copy       the copy has 53 bytes or more: it is translated, or its software begins with 元
use Prim.Native.Nat.{ℕ, zero, suc, ◌+◌, ◌*◌, ◌≤◌, ◌<◌}
use mathlib.Core.Path.{◌≡◌, refl, sym, ap, subst, ◌∙◌}
use mathlib.Core.Bool.{Bool, true, false, not, ◌&&◌}
use mathlib.Core.Logic.{◌⊎◌, inl, inr}
use mathlib.Core.List.{List, [], ◌∷◌, append-nil}
use native.Mathlib.Omega.{arith}
use lib.Dec.{eqb}
use lib.Ieee.{Float}
use lib.ListN.{length}
use lib.Seq.{sets, get_or-set_other}
use borrow.Author.Tests.{le-ltb}
use Rattle.text.specs.declared.Place.{Place}
use Rattle.text.specs.Places.{absent, bytes_at}
use Rattle.times.specs.Times.{s_to_ms}
use Rattle.times.proofs.Seconds.{ms_small, round_trip}
use Rattle.game.specs.declared.Event.{Event}
use Rattle.game.specs.declared.Header.{Header}
use Rattle.game.specs.Header.{software_slot, translated_software_slot, original_encoding_slot, checksum_slot}
use Rattle.game.specs.Header.{place_at, block_at}
use Rattle.game.specs.Same.{Game, text_of, SameGame}
use Rattle.header_software.specs.Software.{begins_with, yuan_name}
use Rattle.byte_reader.specs.Reading.{Bytes}
use Rattle.evf_video.specs.Reading.{game, reading_of, cells_at, game_read}
use Rattle.layout_fields.specs.Fields.{lent}
use Rattle.layout_v4.specs.Version4.{translation_bytes}
use Rattle.evf_layout.specs.Layout.{file_of}
use Rattle.evf_judging.specs.declared.Verdict.TheVariants.{Fine, Refused}
use Rattle.game.specs.Sizes.{sizes_bad}
use Rattle.game.proofs.Sizes.{sizes_fine}
use Rattle.evf_judging.specs.Refusals.{any_below, ends_past, any_past, number_bad, first_refusal, checks}
use Rattle.read_back.specs.Back.{ReadsBack}
use Rattle.evf_video.proofs.Trace.{way, sound, texts-inside, metrics-inside, metrics-texts}
use Rattle.metrics.proofs.Texts.{texts-is}
use Rattle.judging_texts.specs.Texts.{metrics_bad}
use Rattle.read_back.proofs.Readings.{version-old}
use Rattle.layout_lengths.proofs.Sums.{both}
use Rattle.read_back.proofs.Accepted.{text_long, least-length}
use Rattle.evf_judging.proofs.Verdicts.{told_is, untold}
use Rattle.read_back.proofs.Checks.{fine-sayable, late-unsayable}
use Rattle.read_back.proofs.Copy.{copy-back, copy-none}
use Rattle.read_back.proofs.Longer.{cells-long, board_fits, longer-checks, longer-file}

none_below : (n : ℕ) (test : ℕ → Bool) → ((i : ℕ) → test i ≡ false) → any_below n test ≡ false
none_below zero test f = refl
none_below (suc n) test f = rw (none_below n test f, f n)

-- a name that ends inside another does not begin with it
cut : (a : Bool) → (a && false) ≡ true → ⊥
cut true e = let z : ◌≡◌ {A = ℕ} 0 1 = cc in absurd (omega arith)
cut false e = let z : ◌≡◌ {A = ℕ} 0 1 = cc in absurd (omega arith)

cut_later : (a b : Bool) → (a && (b && false)) ≡ true → ⊥
cut_later true b e = cut b e
cut_later false b e = let z : ◌≡◌ {A = ℕ} 0 1 = cc in absurd (omega arith)

module _ (s : List ℕ) (small : Bytes s) {h : Header} {place : Place} {es : List Event}
    (reads : reading_of s ≡ game h place es) where
  -- THE CHECKS THAT DO NOT HOLD
  inside : any_past (length s) h ≡ false
  inside =
      rw (none_below 9 (λ slot. ends_past (length s) (place_at h slot))
      (λ slot. let p = place_at h slot in
      le-ltb (length s) (p.start + p.len) (texts-inside s small reads slot)))
      (le-ltb (length s) (h.metrics.start + h.metrics.len) (metrics-inside s small reads))

  height-small : h.height < 256
  height-small = rw (way s small reads).header_is (sound s small reads).height

  width_small : h.width < 256
  width_small = rw (way s small reads).header_is (sound s small reads).width

  sizes : sizes_bad h.height h.width ≡ false
  sizes =
      let some : 0 < h.height = rw (way s small reads).header_is (sound s small reads).height_some in
      sizes_fine h.height h.width some height-small width_small

  numbers : number_bad 4 h ≡ false
  numbers =
      let mines : h.mine_num < 65536 = rw (way s small reads).header_is (sound s small reads).mines in
      let bbbv : h.bbbv < 65536 = rw (way s small reads).header_is (sound s small reads).bbbv in
      rw (le-ltb 65535 h.mine_num (omega (arith, mines)), le-ltb 65535 h.bbbv (omega (arith, bbbv)))

  -- the block is as many texts as the header counts, in every version
  metrics : metrics_bad h s 4 ≡ false
  unfolding metrics_bad
  metrics = rw ((texts-is h.metrics_count (block_at h s)).1 (metrics-texts s small reads))

  module _ (toMs : Float → ℕ) where
    pub told : {k : ℕ} → first_refusal (checks toMs 4 (game_read s h place es)) ≡ Refused k
        → (k ≡ 16) ⊎ ((19 ≤ k) × (k ≤ 22))
    told =
        told_is (λ n. (n ≡ 16) ⊎ ((19 ≤ n) × (n ≤ 22))) (checks toMs 4 (game_read s h place es)) (
          untold inside,
          (
            untold sizes,
            (
              λ q. inl refl,
              (
                untold (board_fits s h place),
                (
                  untold numbers,
                  (
                    λ q. inr (omega arith, omega arith),
                    (
                      λ q. inr (omega arith, omega arith),
                      (
                        untold metrics,
                        (λ q. inr (omega arith, omega arith), (λ q. inr (omega arith, omega arith), tt)),
                      ),
                    ),
                  ),
                ),
              ),
            ),
          ),
        )

module _ (s : List ℕ) (small : Bytes s) {h : Header} {place : Place} {es : List Event}
    (reads : reading_of s ≡ game h place es) (old : h.version < 4) where
  -- BOTH WAYS, by any rule
  pub kept : (rule : ℕ) → first_refusal (checks (s_to_ms rule) 4 (game_read s h place es)) ≡ Fine
      → ReadsBack (file_of (s_to_ms rule) 4 (game_read s h place es)) (game_read s h place es)
  kept rule e =
      let c = cells_at s h place in
      let room : h.height * h.width ≤ length c = omega (arith, cells-long s h place) in
      let g = lent h s (sets c 0 c) es in
      subst (λ (l : List ℕ). ReadsBack l (game_read s h place es))
      (append-nil (file_of (s_to_ms rule) 4 g)
      ∙ longer-file (s_to_ms rule) s h place es c room (height-small s small reads) (width_small s small reads))
      (copy-back (s_to_ms rule) (round_trip rule) s h place es (ms_small rule) small reads old c room
      (fine-sayable (s_to_ms rule) g (longer-checks (s_to_ms rule) s h place es c room ∙ e)) [])

  pub lost : (rule : ℕ) {k : ℕ} → first_refusal (checks (s_to_ms rule) 4 (game_read s h place es)) ≡ Refused k
      → 19 ≤ k
      → (t : List ℕ) → Bytes t → {h' : Header} {place' : Place} {es' : List Event}
      → reading_of t ≡ game h' place' es' → h'.version ≡ 4
      → SameGame (game_read t h' place' es') (game_read s h place es) → ⊥
  lost rule e late = copy-none (s_to_ms rule) (round_trip rule) s h place es (cells_at s h place)
      (late-unsayable (s_to_ms rule) (game_read s h place es) e late)

  -- LENGTH
  -- a software's name that begins with 元 has its three bytes
  three : (t : List ℕ) → begins_with yuan_name t ≡ true → 3 ≤ length t
  three [] e = let z : ◌≡◌ {A = ℕ} 0 1 = cc in absurd (omega arith)
  three (a ∷ []) e = absurd (cut (eqb a 0xE5) e)
  three (a ∷ b ∷ []) e = absurd (cut_later (eqb a 0xE5) (eqb b 0x85) e)
  three (a ∷ b ∷ c ∷ t) e = omega arith

  software-is : text_of (game_read s h place es) software_slot
      ≡ bytes_at s (place_at (way s small reads).opened.header software_slot)
  software-is =
      ap (λ (k : Header). bytes_at s (place_at k software_slot)) (way s small reads).header_is
      ∙ ap (bytes_at s)
      (get_or-set_other (way s small reads).opened.header.texts checksum_slot software_slot
      (way s small reads).sum absent (λ q. omega (arith, q)))

  translated-is : h.translated ≡ not (begins_with yuan_name (text_of (game_read s h place es) software_slot))
  translated-is =
      ap (λ (k : Header). k.translated) (way s small reads).header_is
      ∙ ((sound s small reads).old (version-old s small reads old)).translated
      ∙ ap (λ (t : List ℕ). not (begins_with yuan_name t)) (sym software-is)

  by_name : (g : Game) (b : Bool) → begins_with yuan_name (text_of g software_slot) ≡ b
      → g.header.translated ≡ not b
      → 2 ≤ length (text_of g software_slot) + length (translation_bytes g)
  by_name g true e t = omega (arith, three (text_of g software_slot) e)
  by_name g false e t =
      omega (
        arith,
        both g t,
        text_long (text_of g translated_software_slot),
        text_long (text_of g original_encoding_slot),
      )

  pub least-copy : (toMs : Float → ℕ) → first_refusal (checks toMs 4 (game_read s h place es)) ≡ Fine
      → 53 ≤ length (file_of toMs 4 (game_read s h place es))
  least-copy toMs e =
      let g = game_read s h place es in
      omega (
        arith,
        least-length toMs g e,
        by_name g (begins_with yuan_name (text_of g software_slot)) refl translated-is,
      )
