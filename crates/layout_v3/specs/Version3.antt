-- A file of version 3 but for its events (01, Header, Board, "Version 3 writer"). Definitions only.
use Rattle.std.specs.Prelude.{ℕ, cond, List, ◌++◌, eqb, length}
use Rattle.text.specs.Decimals.{decimal_bytes}
use Rattle.game.specs.Header.{software_slot, player_slot, race_slot, unique_id_slot, country_slot, device_id_slot}
use Rattle.game.specs.Header.{checksum_slot}
use Rattle.game.specs.Same.{Game, text_of}
use Rattle.byte_reader.specs.Numbers.{bytes_of}
use Rattle.byte_writer.specs.Fields.{zero_ended}
use Rattle.layout_fields.specs.Fields.{first_flags, start_bytes, board_bytes, text_bytes}

-- the byte that ends the events where no checksum follows
abbrev pub no_checksum : ℕ
no_checksum = 255

-- start and end go out in decimal
unfoldable pub texts3 : Game → List ℕ
texts3 g =
    text_bytes g software_slot
    ++ (text_bytes g player_slot ++ (text_bytes g race_slot ++ (text_bytes g unique_id_slot ++
    (zero_ended (decimal_bytes g.header.start_time.0)
    ++ (zero_ended (decimal_bytes g.header.end_time.0) ++
    (text_bytes g country_slot ++ text_bytes g device_id_slot))))))

unfoldable pub front3 : Game → List ℕ
front3 g =
    let h = g.header in
    start_bytes 3 (first_flags h) h ++ (bytes_of 3 h.rtime_ms.0 ++ (texts3 g ++ board_bytes g))

-- the end of the events: 0 and the checksum, or a byte that says that there is none
unfoldable pub tail3 : Game → List ℕ
tail3 g = cond (eqb (length (text_of g checksum_slot)) 0) (bytes_of 1 no_checksum)
    (bytes_of 1 0 ++ text_of g checksum_slot)
