-- WHAT IS PRINTED, by example and by law (01, the program `evflist`). Assumes nothing, but `too_many`
-- that the file is bytes.
--     marked           M3, the marked example
--     empty            an input of no bytes: refusal 1
--     version_5        the version 5: refusal 2
--     too_many         any file of more than 2000 events: refusal 12
--     too_long         any input of more than 65536 bytes: `long`
use Prim.Native.Nat.{ℕ, ◌*◌, ◌≤◌, ◌<◌}
use mathlib.Core.Path.{◌≡◌, refl, sym, ◌∙◌}
use mathlib.Core.List.{List, [], ◌∷◌}
use lib.ListN.{length}
use lib.Ieee.{mul, div, of_int}
use borrow.Author.Tests.{le-leb, lt-leb}
use Rattle.text.specs.declared.Place.{Place}
use Rattle.text.specs.Ends.{up_to00}
use Rattle.text.specs.Utf8.{utf8, byte}
use Rattle.text.specs.Decimals.{in_digits, decimal_of, decimal_bytes}
use Rattle.times.specs.Times.{seconds_of, s_to_ms}
use Rattle.board.specs.Bits.{bit_at}
use Rattle.board.specs.Geometry.{mines_in}
use Rattle.game.specs.declared.Header.{Header}
use Rattle.game.specs.declared.Event.{Event}
use Rattle.game.specs.Kinds.{kind_of}
use Rattle.game.specs.Header.{level_of}
use Rattle.byte_reader.specs.Reading.{Bytes, ◌>>=◌, pure, refuse, refuse_when}
use Rattle.byte_reader.specs.Numbers.{big_endian, number}
use Rattle.byte_reader.specs.Fields.{bytes, text, must_be_utf8, utf8_text}
use Rattle.header_software.specs.Software.{yuan, times_of}
use Rattle.header_fields.specs.Fields.{contents, flags, sizes, board_bytes}
use Rattle.metrics.specs.Block.{texts}
use Rattle.header_v0_v3.specs.Front.{old_texts, old_times, old_device, old_front}
use Rattle.evf_header.specs.Opening.{header_of, front_of, metrics_of, opening}
use Rattle.record_fields.specs.Fields.{mouse_body}
use Rattle.records_v0_v3.specs.Records.{kind_in, old_record}
use Rattle.evf_events.specs.Events.{step_of, run, events_from}
use Rattle.evf_video.specs.Reading.{game, checksum, reading_of}
use Rattle.evf_video.specs.Parsed.{parse_of}
use Rattle.lines.specs.Ascii.{ascii}
use Rattle.event_lines.specs.Lines.{mouse_line, state_line}
use Rattle.listed.specs.Listed.{most_cells, most_events, game_line}
use Rattle.listed.specs.Listed.{refusal_line, long_line, listed_of}
use Rattle.listed.proofs.Lines.{board_fits, of_long, of_short}

-- M3
abbrev m3 : List ℕ
m3 =
    0x03 ∷ 0x90 ∷ 0x00 ∷ 0x01 ∷ 0x02 ∷ 0x00 ∷ 0x01 ∷ 0x10 ∷ 0x00 ∷ 0x00 ∷ 0x00 ∷ 0x01 ∷ 0x00 ∷ 0x03 ∷ 0xE8 ∷
    0xE5 ∷ 0x85 ∷ 0x83 ∷ 0x00 ∷ 0x50 ∷ 0x00 ∷ 0x00 ∷ 0x00 ∷ 0x31 ∷ 0x00 ∷ 0x32 ∷ 0x00 ∷ 0x63 ∷ 0x6E ∷ 0x00 ∷
    0x00 ∷ 0x80 ∷ 0x02 ∷ 0x00 ∷ 0x00 ∷ 0x05 ∷ 0x00 ∷ 0x08 ∷ 0x00 ∷ 0x08 ∷ 0x03 ∷ 0x00 ∷ 0x01 ∷ 0x2C ∷ 0x00 ∷
    0x07 ∷ 0x00 ∷ 0x08 ∷ 0xFF ∷ []

pub marked : listed_of m3 ≡ ascii "game\t3\t1\t2\t1\t1000\t2\nlc\t5\t8\t8\nlr\t300\t7\t8\n"
unfolding mul div of_int up_to00 utf8 byte in_digits decimal_of decimal_bytes seconds_of s_to_ms bit_at mines_in kind_of
    level_of ◌>>=◌ pure refuse refuse_when big_endian number bytes text must_be_utf8 utf8_text yuan times_of contents
    flags sizes board_bytes texts old_texts old_times old_device old_front header_of front_of metrics_of opening
    mouse_body kind_in old_record step_of run events_from checksum reading_of parse_of mouse_line state_line game_line
    listed_of
marked = refl

pub empty : listed_of [] ≡ ascii "refused\t1\n"
unfolding ◌>>=◌ pure refuse number front_of opening reading_of parse_of decimal_bytes refusal_line listed_of
empty = refl

pub version_5 : listed_of (5 ∷ []) ≡ ascii "refused\t2\n"
unfolding ◌>>=◌ pure refuse refuse_when big_endian number front_of opening reading_of parse_of decimal_bytes
    refusal_line listed_of
version_5 = refl

module _ (file : List ℕ) where
  pub too_many : Bytes file → length file ≤ 65536 → {h : Header} {board : Place} {es : List Event}
      → reading_of file ≡ game h board es → 2000 < length es → listed_of file ≡ ascii "refused\t12\n"
  unfolding parse_of refusal_line decimal_bytes
  too_many small short {h} {board} {es} q many =
      sym (of_short file short)
      ∙ rw (
        q,
        le-leb (h.height * h.width) most_cells (board_fits file small q),
        lt-leb (length es) most_events many,
      )

  pub too_long : 65536 < length file → listed_of file ≡ ascii "long\n"
  unfolding long_line
  too_long h = sym (of_long file h)
