-- The texts that a version cannot hold (01, Refusals 19 and 20; 02, note 3). Definitions only.
use Rattle.std.specs.Prelude.{ℕ, Bool, not, cond, ◌&&◌, ◌||◌, List, eqb, ltb, length}
use Rattle.text.specs.Bytes.{all, non_zero}
use Rattle.text.specs.Utf8.{utf8}
use Rattle.game.specs.declared.Header.{Header}
use Rattle.game.specs.Header.{software_slot, translated_software_slot, original_encoding_slot, player_slot}
use Rattle.game.specs.Header.{race_slot, unique_id_slot, country_slot, device_id_slot, checksum_slot, text_at}
use Rattle.game.specs.Header.{block_at}
use Rattle.game.specs.Limits.{largest_u16, checksum_length}
use Rattle.metrics.specs.Block.{are_texts}

-- 19: a text that is to be ended by 00 holds one, or is not UTF-8
abbrev pub holds00 : List ℕ → Bool
holds00 text = not (all non_zero text)

abbrev pub text_bad : List ℕ → Bool
text_bad text = not (utf8 text) || holds00 text

module _ (h : Header) (bytes : List ℕ) where
  -- software, player, race and id, in both versions
  abbrev pub shared_bad : Bool
  shared_bad = text_bad (text_at h bytes software_slot)
      || (text_bad (text_at h bytes player_slot)
      || (text_bad (text_at h bytes race_slot) || text_bad (text_at h bytes unique_id_slot)))

  -- version 4: the two of a translation
  abbrev pub translation_bad : Bool
  translation_bad = h.translated
      && (text_bad (text_at h bytes translated_software_slot) || text_bad (text_at h bytes original_encoding_slot))

  -- version 3: the country, and the device id, which need not be UTF-8
  abbrev pub texts3_bad : Bool
  texts3_bad = text_bad (text_at h bytes country_slot) || holds00 (text_at h bytes device_id_slot)

  unfoldable pub texts_bad : (version : ℕ) → Bool
  texts_bad version = shared_bad || cond (eqb version 4) translation_bad texts3_bad

  -- 20: version 4 counts device id and checksum in a u16; version 3 has a checksum of 32 bytes or none
  unfoldable pub lengths_bad : (version : ℕ) → Bool
  lengths_bad version =
      cond (eqb version 4)
      (ltb largest_u16 (length (text_at h bytes device_id_slot))
      || ltb largest_u16 (length (text_at h bytes checksum_slot)))
      (not (eqb (length (text_at h bytes checksum_slot)) 0
      || eqb (length (text_at h bytes checksum_slot)) checksum_length))

  -- 25: version 4 writes the custom metrics, which must be exactly as many texts as they are said to be;
  -- version 3 writes none and asks nothing of them
  unfoldable pub metrics_bad : (version : ℕ) → Bool
  metrics_bad version = eqb version 4 && not (are_texts h.metrics_count (block_at h bytes))
