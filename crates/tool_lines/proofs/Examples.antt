-- The definitions give the lines of the examples, by computing. Assumes nothing.
use mathlib.Core.Path.{◌≡◌, refl}
use mathlib.Core.List.{[], ◌∷◌}
use Rattle.text.specs.Ends.{up_to00}
use Rattle.text.specs.Utf8.{utf8, byte}
use Rattle.text.specs.Decimals.{in_digits, decimal_of, decimal_bytes}
use Rattle.board.specs.Bits.{bit_at}
use Rattle.board.specs.Geometry.{mines_in}
use Rattle.game.specs.Kinds.{kind_of}
use Rattle.game.specs.Header.{level_of}
use Rattle.game.specs.Country.{is_letter, upper, two_letters}
use Rattle.byte_reader.specs.Reading.{◌>>=◌, pure, refuse, refuse_when}
use Rattle.byte_reader.specs.Numbers.{big_endian, number}
use Rattle.byte_reader.specs.Fields.{bytes, text, must_be_utf8, utf8_text}
use Rattle.header_software.specs.Software.{yuan, times_of}
use Rattle.header_fields.specs.Fields.{contents, flags, sizes, board_bytes}
use Rattle.header_v0_v3.specs.Front.{old_texts, old_times, old_device, old_front}
use Rattle.evf_header.specs.Opening.{header_of, front_of, metrics_of, opening}
use Rattle.record_fields.specs.Fields.{mouse_body}
use Rattle.records_v0_v3.specs.Records.{kind_in, old_record}
use Rattle.evf_events.specs.Events.{step_of, run, events_from}
use Rattle.evf_video.specs.Reading.{checksum, reading_of}
use Rattle.left_out.specs.Ending.{end_of}
use Rattle.left_out.specs.LeftOut.{says_unknown, country_lost, words_in, understood, words_lost, moments_lost}
use Rattle.left_out.specs.LeftOut.{left_out_of}
use Rattle.tool_lines.specs.Lines.{read_line, checked_line, left_fields, upgraded_line}
use Rattle.tool_lines.specs.Examples.{version3, m3, elsewhere, m3_checked, m3_upgraded, elsewhere_upgraded}

pub printed : checked_line m3 ∷ upgraded_line 65 2 (left_out_of m3) ∷ upgraded_line 71 2 (left_out_of elsewhere) ∷ []
    ≡ m3_checked ∷ m3_upgraded ∷ elsewhere_upgraded ∷ []
unfolding up_to00 utf8 byte in_digits decimal_of decimal_bytes bit_at mines_in kind_of level_of ◌>>=◌ pure refuse
    refuse_when big_endian number bytes text must_be_utf8 utf8_text yuan times_of contents flags sizes board_bytes
    old_texts old_times old_device old_front header_of front_of metrics_of opening mouse_body kind_in old_record step_of
    run events_from checksum reading_of is_letter upper two_letters end_of says_unknown country_lost words_in
    understood words_lost moments_lost left_out_of read_line checked_line left_fields upgraded_line version3 m3
    elsewhere
printed = refl
