-- The definitions give the line of the example, by computing. Assumes nothing.
use mathlib.Core.Path.{◌≡◌, refl}
use Rattle.text.specs.Ends.{up_to00}
use Rattle.text.specs.Utf8.{utf8, byte}
use Rattle.text.specs.Decimals.{decimal_bytes}
use Rattle.board.specs.Bits.{bit_at}
use Rattle.board.specs.Geometry.{mines_in}
use Rattle.game.specs.Kinds.{kind_of, state_of}
use Rattle.game.specs.Header.{level_of}
use Rattle.game.specs.Country.{is_letter, upper, two_letters}
use Rattle.byte_reader.specs.Reading.{◌>>=◌, pure, refuse, refuse_when}
use Rattle.byte_reader.specs.Numbers.{big_endian, number}
use Rattle.byte_reader.specs.Fields.{bytes, counted_bytes, text, must_be_utf8, utf8_bytes, utf8_text}
use Rattle.header_fields.specs.Fields.{contents, flags, sizes, board_bytes}
use Rattle.header_v4.specs.Front.{translation, new_texts, new_front}
use Rattle.metrics.specs.Block.{texts, block_of_texts, custom_metrics}
use Rattle.evf_header.specs.Opening.{header_of, front_of, metrics_of, opening}
use Rattle.record_fields.specs.Fields.{mouse_body}
use Rattle.records_v4.specs.Records.{is_first, first_record, move_body, pause_body, state_body, unnamed}
use Rattle.records_v4.specs.Records.{later_record}
use Rattle.evf_events.specs.Events.{event_after, later, later_from, step_of, run, events_from}
use Rattle.evf_video.specs.Reading.{checksum, reading_of}
use Rattle.left_out.specs.Ending.{end_of}
use Rattle.left_out.specs.LeftOut.{says_unknown, country_lost, left_out_of}
use Rattle.tool_lines.specs.Lines.{left_fields}
use Rattle.resaved.specs.Lines.{resaved_line}
use Rattle.resaved.specs.Examples.{measured, measured_resaved}

pub printed : resaved_line 68 (left_out_of measured) ≡ measured_resaved
unfolding up_to00 utf8 byte decimal_bytes bit_at mines_in kind_of state_of level_of is_letter upper two_letters ◌>>=◌
    pure refuse refuse_when big_endian number bytes counted_bytes text must_be_utf8 utf8_bytes utf8_text contents
    flags sizes board_bytes translation new_texts new_front texts block_of_texts custom_metrics header_of front_of
    metrics_of opening mouse_body is_first first_record move_body pause_body state_body unnamed later_record
    event_after later later_from step_of run events_from checksum reading_of end_of says_unknown country_lost
    left_out_of left_fields resaved_line measured
printed = refl
