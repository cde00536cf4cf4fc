-- The definitions give M3's line, by computing: its version is 3, so no board is needed. Assumes nothing.
use Prim.Native.Nat.{ℕ}
use mathlib.Core.Path.{◌≡◌, refl}
use mathlib.Core.List.{List}
use lib.IntN.{ℤ}
use Rattle.text.specs.Ends.{up_to00}
use Rattle.text.specs.Utf8.{utf8, byte}
use Rattle.text.specs.Decimals.{in_digits, decimal_of}
use Rattle.game.specs.Kinds.{kind_of}
use Rattle.byte_reader.specs.Reading.{◌>>=◌, pure, refuse, refuse_when}
use Rattle.byte_reader.specs.Numbers.{big_endian, number}
use Rattle.byte_reader.specs.Fields.{bytes, text, must_be_utf8, utf8_text}
use Rattle.header_software.specs.Software.{yuan, times_of}
use Rattle.header_fields.specs.Fields.{contents, flags, sizes, board_bytes}
use Rattle.header_v0_v3.specs.Front.{old_texts, old_times, old_device, old_front}
use Rattle.evf_header.specs.Opening.{header_of, front_of, metrics_of, opening}
use Rattle.record_fields.specs.Fields.{mouse_body}
use Rattle.records_v0_v3.specs.Records.{kind_in, old_record}
use Rattle.evf_events.specs.Events.{step_of, run, events_from}
use Rattle.evf_video.specs.Reading.{checksum, reading_of}
use Rattle.badge_rules.specs.declared.Wish.TheVariants.{Version}
use Rattle.badge.specs.Badge.{older_earned}
use Rattle.file_badge.specs.FileBadge.{file_badge}
use Rattle.tool_lines.specs.Examples.{version3, m3}
use Rattle.badged.specs.Lines.{badged_line}
use Rattle.badged.specs.Examples.{m3_badged}

pub printed : (board : List ℤ) (cells : List ℕ) → badged_line Version m3 board cells ≡ m3_badged
unfolding up_to00 utf8 byte in_digits decimal_of kind_of ◌>>=◌ pure refuse refuse_when big_endian number bytes text
    must_be_utf8 utf8_text yuan times_of contents flags sizes board_bytes old_texts old_times old_device old_front
    header_of front_of metrics_of opening mouse_body kind_in old_record step_of run events_from checksum reading_of
    version3 m3 older_earned file_badge badged_line
printed board cells = refl
