-- The definitions give M3's line, by computing. Assumes nothing.
use mathlib.Core.Path.{◌≡◌, refl}
use Rattle.text.specs.Ends.{up_to00}
use Rattle.text.specs.Utf8.{utf8, byte}
use Rattle.text.specs.Decimals.{in_digits, decimal_of, decimal_bytes}
use Rattle.board.specs.Bits.{bit_at}
use Rattle.board.specs.Geometry.{beside, near, crossing, neighbours, number as number_at}
use Rattle.board.specs.Geometry.{cell_of, cells, mine_at, mines_in}
use Rattle.game.specs.Kinds.{kind_of}
use Rattle.game.specs.Header.{level_of}
use Rattle.game.specs.Sizes.{sizes_bad, cells_short}
use Rattle.byte_reader.specs.Reading.{◌>>=◌, pure, refuse, refuse_when}
use Rattle.byte_reader.specs.Numbers.{big_endian, number}
use Rattle.byte_reader.specs.Fields.{bytes, text, must_be_utf8, utf8_text}
use Rattle.header_software.specs.Software.{yuan, times_of}
use Rattle.header_fields.specs.Fields.{contents, flags, sizes, board_bytes}
use Rattle.header_v0_v3.specs.Front.{old_texts, old_times, old_device, old_front}
use Rattle.evf_header.specs.Opening.{header_of, front_of, metrics_of, opening}
use Rattle.record_fields.specs.Fields.{mouse_body}
use Rattle.records_v0_v3.specs.Records.{kind_in, old_record}
use Rattle.evf_events.specs.Events.{step_of, run, events_from}
use Rattle.evf_video.specs.Reading.{checksum, reading_of}
use Rattle.flood.specs.Spread.{round, rounds, reached}
use Rattle.flood.specs.Flood.{is_zero}
use Rattle.openings.specs.Bbbv.{leads, openings, lone, bbbv}
use Rattle.openings.specs.Recount.{recount_of}
use Rattle.tool_lines.specs.Examples.{version3, m3}
use Rattle.recounted.specs.Recounting.{game_recount, file_recount}
use Rattle.recounted.specs.Lines.{counts_line, recounted_line}
use Rattle.recounted.specs.Examples.{m3_recounted}

pub printed : recounted_line m3 ≡ m3_recounted
unfolding up_to00 utf8 byte in_digits decimal_of decimal_bytes bit_at beside near crossing neighbours number_at
    cell_of cells mine_at mines_in kind_of level_of sizes_bad cells_short ◌>>=◌ pure refuse refuse_when big_endian
    number bytes text
    must_be_utf8 utf8_text yuan times_of contents flags sizes board_bytes old_texts old_times old_device old_front
    header_of front_of metrics_of opening mouse_body kind_in old_record step_of run events_from checksum reading_of
    round rounds reached is_zero leads openings lone bbbv recount_of version3 m3 game_recount file_recount
    counts_line recounted_line
printed = refl
