-- A header is shown in at most 8100 bytes. Assumes nothing.
use Prim.Native.Nat.{ℕ, ◌/◌, ◌≤◌}
use mathlib.Core.Bool.{Bool, true, false, cond, ◌&&◌}
use mathlib.Core.List.{List, []}
use native.Mathlib.Omega.{arith}
use lib.Dec.{eqb}
use lib.ListN.{length, length-append}
use Rattle.text.specs.Decimals.{decimal_bytes}
use Rattle.text.proofs.Decimals.{twenty_at-most}
use Rattle.game.specs.declared.Header.{Header}
use Rattle.game.specs.Header.{software_slot, translated_software_slot, original_encoding_slot, player_slot}
use Rattle.game.specs.Header.{race_slot, unique_id_slot, country_slot, device_id_slot, checksum_slot, text_at}
use Rattle.lines.specs.Ascii.{ascii}
use Rattle.lines.proofs.Escaping.{length-shown}
use Rattle.forms.specs.Values.{yes_no, thousandths, seconds, level_name}
use Rattle.shown_header.specs.Lines.{names_shown, translation_shown, translation_if_any, values_shown}
use Rattle.shown_header.specs.Lines.{flags_shown, header_shown}

-- VALUES
flag_small : (b : Bool) → length (yes_no b) ≤ 3
flag_small true = omega arith
flag_small false = omega arith

level_small : (n : ℕ) → length (level_name n) ≤ 12
unfolding level_name
level_small n =
    let last = cond (eqb n 5) (ascii "expert") (ascii "custom") in
    let last-small : length last ≤ 12 =
    (elim (eqb n 5) as (λ a. length (cond a (ascii "expert") (ascii "custom")) ≤ 12) [
      | true ↦ omega arith
      | false ↦ omega arith
    ]) in
    (elim (eqb n 3) as
    (λ a. length (cond a (ascii "beginner") (cond (eqb n 4) (ascii "intermediate") last)) ≤ 12) [
      | true ↦ omega arith
      | false ↦ (elim (eqb n 4) as (λ a. length (cond a (ascii "intermediate") last) ≤ 12) [
        | true ↦ omega arith
        | false ↦ last-small
      ])
    ])

seconds-small : (n : ℕ) → length (seconds n) ≤ 24
unfolding seconds thousandths
seconds-small n =
    omega (arith, twenty_at-most (n / 1000), length-append (decimal_bytes (n / 1000)) (thousandths n))

-- THE HEADER
module _ (file : List ℕ) (h : Header) where
  names-small : length (names_shown file h) ≤ 4400
  unfolding names_shown
  names-small =
      simp length-append
      (omega (
        arith,
        length-shown (text_at h file player_slot),
        length-shown (text_at h file race_slot),
        length-shown (text_at h file unique_id_slot),
        length-shown (text_at h file country_slot),
        length-shown (text_at h file software_slot),
      ))

  translation-small : length (translation_shown file h) ≤ 1800
  unfolding translation_shown
  translation-small =
      simp length-append
      (omega (
        arith,
        length-shown (text_at h file translated_software_slot),
        length-shown (text_at h file original_encoding_slot),
      ))

  translation-if-small : length (translation_if_any file h) ≤ 1800
  unfolding translation_if_any
  translation-if-small =
      (elim (eqb h.version 4 && h.translated) as
      (λ t. length (cond t (translation_shown file h) []) ≤ 1800) [
        | true ↦ translation-small
        | false ↦ omega arith
      ])

  values-small : length (values_shown file h) ≤ 1500
  unfolding values_shown
  values-small =
      simp length-append
      (omega (
        arith,
        length-shown (text_at h file device_id_slot),
        level_small h.level,
        seconds-small h.rtime_ms.0,
        twenty_at-most h.version,
        twenty_at-most h.height,
        twenty_at-most h.width,
        twenty_at-most h.mine_num,
        twenty_at-most h.mines_found,
        twenty_at-most h.cell_pixel_size,
        twenty_at-most h.mode,
        twenty_at-most h.bbbv,
        twenty_at-most h.start_time.0,
        twenty_at-most h.end_time.0,
      ))

  module _ (events : ℕ) where
    flags-small : length (flags_shown file h events) ≤ 400
    unfolding flags_shown
    flags-small =
        simp length-append
        (omega (
          arith,
          flag_small h.is_completed,
          flag_small h.is_official,
          flag_small h.is_fair,
          flag_small h.nf,
          flag_small h.translated,
          flag_small h.use_question,
          flag_small h.use_cursor_pos_lim,
          flag_small h.use_auto_replay,
          twenty_at-most (length (text_at h file checksum_slot)),
          twenty_at-most events,
        ))

    pub header-small : length (header_shown file h events) ≤ 8100
    unfolding header_shown
    header-small =
        simp length-append
        (omega (arith, names-small, translation-if-small, values-small, flags-small))
