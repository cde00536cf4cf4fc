-- Everything before the first event record, versions 0 to 4 (01, Header; Refusals 1 to 7; 02, note 3).
-- Definitions only.
use Rattle.std.specs.Prelude.{ℕ, ◌*◌, cond, eqb, ltb}
use Rattle.text.specs.declared.Place.{Place}
use Rattle.text.specs.Places.{absent}
use Rattle.board.specs.Geometry.{mines_in}
use Rattle.board.specs.Bits.{bit_at}
use Rattle.game.specs.declared.Header.{Header}
use Rattle.game.specs.Header.{level_of, blank}
use Rattle.game.specs.Refusals.{version_unknown}
use Rattle.byte_reader.specs.Reading.{Reader, ◌>>=◌, pure, refuse_when}
use Rattle.byte_reader.specs.Numbers.{number}
use Rattle.header_fields.specs.declared.Front.{Front}
use Rattle.header_fields.specs.Fields.{contents, flag, texts_of, board_bytes}
use Rattle.header_v0_v3.specs.Front.{old_front}
use Rattle.header_v4.specs.Front.{new_front}
use Rattle.metrics.specs.declared.Metrics.{Metrics}
use Rattle.metrics.specs.Block.{custom_metrics, no_metrics}

-- the header, complete but for the checksum, and the place of the packed board
pub record Opened : Type 0 where
  pub header : Header
  pub board : Place

abbrev pub blank_opening : Opened
blank_opening = record { header = blank; board = absent }

-- the header of every version, from what it tells, the mines found on its board and the metrics behind it
unfoldable pub header_of : (version : ℕ) → Front → (found : ℕ) → Metrics → Header
header_of version t found metrics = record {
  version = version;
  is_completed = flag t.flags.first 0x80;
  is_official = flag t.flags.first 0x40;
  is_fair = flag t.flags.first 0x20;
  nf = flag t.flags.first 0x10;
  translated = t.translated;
  use_question = flag t.flags.second 0x80;
  use_cursor_pos_lim = flag t.flags.second 0x40;
  use_auto_replay = flag t.flags.second 0x20;
  height = t.sizes.height;
  width = t.sizes.width;
  mine_num = t.sizes.mine_num;
  cell_pixel_size = t.sizes.cell_pixel_size;
  mode = t.sizes.mode;
  bbbv = t.sizes.bbbv;
  rtime_ms = t.time;
  start_time = t.span.start;
  end_time = t.span.end;
  level = level_of t.sizes.height t.sizes.width t.sizes.mine_num;
  mines_found = found;
  texts = texts_of t.texts;
  metrics = metrics.block;
  metrics_count = metrics.count;
}

unfoldable pub front_of : ℕ → Reader Front
front_of version = cond (eqb version 4) new_front (old_front version)

-- version 4 has custom metrics behind the board
unfoldable pub metrics_of : ℕ → Reader Metrics
metrics_of version = cond (eqb version 4) custom_metrics (pure no_metrics)

unfoldable pub opening : Reader Opened
opening = do
  version ← number 1
  _ ← refuse_when (ltb 4 version) version_unknown
  t ← front_of version
  board ← board_bytes t.sizes.height t.sizes.width
  bits ← contents board
  metrics ← metrics_of version
  pure (record {
    header = header_of version t (mines_in (bit_at bits) (t.sizes.height * t.sizes.width)) metrics;
    board = board;
  })
