-- The definition shows M3's file as written out: antt computes it. Assumes nothing.
use mathlib.Core.Path.{◌≡◌, refl}
use lib.Ieee.{mul, div, of_int, to_bits}
use Rattle.text.specs.Ends.{up_to00}
use Rattle.text.specs.Utf8.{utf8, byte}
use Rattle.text.specs.Decimals.{in_digits, decimal_of, decimal_bytes}
use Rattle.times.specs.Times.{seconds_of}
use Rattle.board.specs.Bits.{bit_at}
use Rattle.board.specs.Geometry.{beside, near, crossing, neighbours, number, cell_of, cells, mines_in}
use Rattle.game.specs.Kinds.{kind_of}
use Rattle.game.specs.Header.{level_of}
use Rattle.byte_reader.specs.Reading.{◌>>=◌, pure, refuse, refuse_when}
use Rattle.byte_reader.specs.Numbers.{big_endian, number as numberField}
use Rattle.byte_reader.specs.Fields.{bytes, text, must_be_utf8, utf8_text}
use Rattle.header_software.specs.Software.{yuan, times_of}
use Rattle.header_fields.specs.Fields.{contents, flags, sizes, board_bytes}
use Rattle.metrics.specs.Block.{texts}
use Rattle.header_v0_v3.specs.Front.{old_texts, old_times, old_device, old_front}
use Rattle.evf_header.specs.Opening.{header_of, front_of, metrics_of, opening}
use Rattle.record_fields.specs.Fields.{mouse_body}
use Rattle.records_v0_v3.specs.Records.{kind_in, old_record}
use Rattle.evf_events.specs.Events.{event_after, step_of, run, events_from}
use Rattle.evf_video.specs.Reading.{checksum, reading_of}
use Rattle.lines.specs.Escapes.{char_length, control, plain_length, shown_byte, escaped_from, shown_text}
use Rattle.forms.specs.Values.{thousandths, seconds, level_name}
use Rattle.board_text.specs.Rows.{char_at, row_text, board_text}
use Rattle.shown_header.specs.Lines.{names_shown, translation_if_any, values_shown, flags_shown, header_shown}
use Rattle.shown.specs.Shown.{game_shown, shown_of}
use Rattle.marked.specs.Examples.{version3}
use Rattle.shown_marked.specs.Example.{version3_shown}

pub version3-shown : shown_of version3 ≡ version3_shown
unfolding mul div of_int up_to00 utf8 byte in_digits decimal_of decimal_bytes seconds_of bit_at beside near
    crossing neighbours number cell_of cells mines_in kind_of level_of ◌>>=◌ pure refuse refuse_when big_endian
    numberField bytes text must_be_utf8 utf8_text yuan times_of contents flags sizes board_bytes texts old_texts
    old_times old_device old_front header_of front_of metrics_of opening mouse_body kind_in old_record event_after
    step_of run events_from checksum reading_of char_length control plain_length shown_byte escaped_from shown_text
    thousandths seconds level_name char_at row_text board_text names_shown translation_if_any values_shown
    flags_shown header_shown game_shown shown_of version3 version3_shown
version3-shown = refl
