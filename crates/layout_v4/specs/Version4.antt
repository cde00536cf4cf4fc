-- A file of version 4 but for its events (01, Header, Board, "Version 4 writer and upgrade"; 02, note 3).
-- Definitions only.
use Rattle.std.specs.Prelude.{ℕ, cond, List, [], ◌++◌}
use Rattle.game.specs.Header.{software_slot, translated_software_slot, original_encoding_slot, player_slot}
use Rattle.game.specs.Header.{race_slot, unique_id_slot, country_slot, device_id_slot, checksum_slot}
use Rattle.game.specs.Country.{two_letters}
use Rattle.game.specs.Same.{Game, text_of, block_of}
use Rattle.byte_reader.specs.Numbers.{bytes_of}
use Rattle.byte_writer.specs.Fields.{counted}
use Rattle.layout_fields.specs.Fields.{flags4, start_bytes, board_bytes, text_bytes}

-- the two texts of a translation, where there is one
unfoldable pub translation_bytes : Game → List ℕ
translation_bytes g = cond g.header.translated
    (text_bytes g translated_software_slot ++ text_bytes g original_encoding_slot) []

unfoldable pub texts4 : Game → List ℕ
texts4 g =
    text_bytes g software_slot
    ++ (translation_bytes g
    ++ (text_bytes g player_slot
    ++ (text_bytes g race_slot ++ (text_bytes g unique_id_slot ++ counted (text_of g device_id_slot)))))

-- the custom metrics: how many, and the block of their texts as it is
unfoldable pub metrics_bytes : Game → List ℕ
metrics_bytes g = bytes_of 2 g.header.metrics_count ++ block_of g

-- everything before the events
unfoldable pub front4 : Game → List ℕ
front4 g =
    let h = g.header in
    start_bytes 4 (flags4 h) h ++ (bytes_of 4 h.rtime_ms.0 ++ (two_letters (text_of g country_slot) ++
    (bytes_of 8 h.start_time.0
    ++ (bytes_of 8 h.end_time.0 ++ (texts4 g ++ (board_bytes g ++ metrics_bytes g))))))

-- the end of the events, and the checksum
unfoldable pub tail4 : Game → List ℕ
tail4 g = bytes_of 1 0 ++ counted (text_of g checksum_slot)
