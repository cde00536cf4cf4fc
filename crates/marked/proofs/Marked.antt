-- The definitions give the answer of every marked example: one table, one assertion, by computing. Assumes
-- nothing.
use mathlib.Core.Path.{◌≡◌, refl}
use mathlib.Core.List.{map}
use lib.Ieee.{mul, div, of_int, to_bits}
use Rattle.text.specs.Ends.{up_to00}
use Rattle.text.specs.Utf8.{utf8, byte}
use Rattle.text.specs.Decimals.{in_digits, decimal_of, decimal_bytes}
use Rattle.times.specs.Times.{seconds_of, s_to_ms}
use Rattle.board.specs.Bits.{bit_at}
use Rattle.board.specs.Geometry.{beside, crossing, neighbours, number, cell_of, cells, mines_in}
use Rattle.game.specs.Kinds.{kind_of}
use Rattle.game.specs.Header.{level_of}
use Rattle.game.specs.Sizes.{sizes_bad, cells_short}
use Rattle.byte_reader.specs.Reading.{◌>>=◌, pure, refuse, refuse_when}
use Rattle.byte_reader.specs.Numbers.{big_endian, number as numberField}
use Rattle.byte_reader.specs.Fields.{bytes, counted_bytes, text, must_be_utf8, utf8_text, utf8_bytes}
use Rattle.header_software.specs.Software.{yuan, times_of}
use Rattle.header_fields.specs.Fields.{contents, flags, sizes, board_bytes}
use Rattle.metrics.specs.Block.{texts, block_of_texts, custom_metrics, are_texts}
use Rattle.header_v0_v3.specs.Front.{old_texts, old_times, old_device, old_front}
use Rattle.header_v4.specs.Front.{translation, new_texts, new_front}
use Rattle.evf_header.specs.Opening.{header_of, front_of, metrics_of, opening}
use Rattle.record_fields.specs.Fields.{mouse_body}
use Rattle.records_v0_v3.specs.Records.{kind_in, old_record}
use Rattle.records_v4.specs.Records.{is_first, first_record, move_body, later_record}
use Rattle.evf_events.specs.Events.{event_after, later, later_from, step_of, run, events_from}
use Rattle.evf_video.specs.Reading.{checksum, reading_of}
use Rattle.evf_video.specs.Parsed.{parse_of}
use Rattle.board.specs.Bits.{packed_byte, packed}
use Rattle.board.specs.Geometry.{mine_at}
use Rattle.game.specs.Country.{is_letter, upper, two_letters}
use Rattle.mouse_records.specs.Pauses.{pauses, rest, pauses_of, rest_of}
use Rattle.mouse_records.specs.Records.{record3, record4}
use Rattle.evf_records.specs.Refusals.{start_unwritable, event_unwritable}
use Rattle.layout_fields.specs.Fields.{start_bytes, board_bytes as boardOut}
use Rattle.layout_v3.specs.Version3.{texts3 as oldTextsOut, front3 as oldFrontOut, tail3}
use Rattle.layout_v4.specs.Version4.{translation_bytes, texts4 as textsOut, metrics_bytes, front4 as frontOut}
use Rattle.layout_v4.specs.Version4.{tail4}
use Rattle.judging_texts.specs.Texts.{texts_bad, lengths_bad, metrics_bad}
use Rattle.generate_evf.specs.Written.{written_of, file_then}
use Rattle.marked.specs.Examples.{Example, moment, values_of, flags_of, shown, shown_written, shown_ms}
use Rattle.marked.specs.Examples.{answer_to}
use Rattle.marked.specs.Examples.{version3, version3_of, version3_with, version4, two_events, upgraded}
use Rattle.marked.specs.Examples.{moved, wrapped, pressed, game_of, touches, touched, alike, table}

pub marked : map (λ (e : Example). answer_to e.asked) table ≡ map (λ (e : Example). e.answer) table
unfolding mul div of_int up_to00 utf8 byte in_digits decimal_of seconds_of s_to_ms bit_at beside crossing neighbours
    number cell_of cells mines_in kind_of level_of ◌>>=◌ pure refuse refuse_when big_endian numberField bytes text
    must_be_utf8 utf8_text utf8_bytes yuan times_of contents flags sizes board_bytes texts block_of_texts
    custom_metrics old_texts old_times old_device old_front translation new_texts new_front header_of front_of
    metrics_of opening mouse_body kind_in old_record is_first first_record move_body later_record event_after later
    later_from step_of run events_from counted_bytes checksum reading_of parse_of moment values_of flags_of shown
    shown_written shown_ms answer_to version3 version3_of version3_with version4 two_events upgraded moved wrapped
    to_bits
    pressed game_of alike table packed_byte packed mine_at is_letter upper two_letters pauses rest pauses_of rest_of
    start_unwritable event_unwritable start_bytes boardOut translation_bytes textsOut metrics_bytes frontOut
    sizes_bad cells_short texts_bad lengths_bad metrics_bad are_texts written_of file_then tail4 record4 oldFrontOut
    oldTextsOut decimal_bytes tail3 record3 touches touched
marked = refl
