-- When two games are the same: 01's comparison by value, the version apart (01, Version 4 writer and
-- upgrade; 02, note 3). Definitions only.
use Rattle.std.specs.Prelude.{ℕ, ◌≡◌, List, ℤ}
use Rattle.game.specs.declared.Header.{Header}
use Rattle.game.specs.declared.Event.{Event}
use Rattle.game.specs.Header.{software_slot, translated_software_slot, original_encoding_slot, player_slot}
use Rattle.game.specs.Header.{race_slot, unique_id_slot, country_slot, device_id_slot, checksum_slot, text_at}
use Rattle.game.specs.Header.{block_at}
use Rattle.game.specs.Country.{two_letters}

-- A whole game: its header, the bytes in which its texts lie, its height × width cells row by row, and its
-- events in their order.
pub record Game : Type 0 where
  pub header : Header
  pub bytes : List ℕ
  pub cells : List ℤ
  pub events : List Event

-- the bytes of one of the nine texts of a game
abbrev pub text_of : Game → (slot : ℕ) → List ℕ
text_of g slot = text_at g.header g.bytes slot

-- the bytes of the block of its custom metrics
abbrev pub block_of : Game → List ℕ
block_of g = block_at g.header g.bytes

-- Two games are the same: equal header values, cells and events; texts equal as bytes, wherever they lie;
-- countries of one two-letter form; as many custom metrics, in a block of equal bytes, wherever that lies.
-- Seconds are values of `lib.Ieee`, which has one for each bit pattern that is no NaN: where they are no NaN,
-- equal means of equal bits.
pub record SameGame (g k : Game) : Type 0 where
  pub height : g.header.height ≡ k.header.height
  pub width : g.header.width ≡ k.header.width
  pub mines : g.header.mine_num ≡ k.header.mine_num
  pub cell_pixels : g.header.cell_pixel_size ≡ k.header.cell_pixel_size
  pub mode : g.header.mode ≡ k.header.mode
  pub bbbv : g.header.bbbv ≡ k.header.bbbv
  pub time : g.header.rtime_ms ≡ k.header.rtime_ms
  pub start : g.header.start_time ≡ k.header.start_time
  pub end : g.header.end_time ≡ k.header.end_time
  pub level : g.header.level ≡ k.header.level
  pub mines_found : g.header.mines_found ≡ k.header.mines_found
  pub completed : g.header.is_completed ≡ k.header.is_completed
  pub official : g.header.is_official ≡ k.header.is_official
  pub fair : g.header.is_fair ≡ k.header.is_fair
  pub nf : g.header.nf ≡ k.header.nf
  pub translated : g.header.translated ≡ k.header.translated
  pub question : g.header.use_question ≡ k.header.use_question
  pub cursor_limit : g.header.use_cursor_pos_lim ≡ k.header.use_cursor_pos_lim
  pub auto_replay : g.header.use_auto_replay ≡ k.header.use_auto_replay
  pub cells : g.cells ≡ k.cells
  pub events : g.events ≡ k.events
  pub software : text_of g software_slot ≡ text_of k software_slot
  pub translated_software : text_of g translated_software_slot ≡ text_of k translated_software_slot
  pub original_encoding : text_of g original_encoding_slot ≡ text_of k original_encoding_slot
  pub player : text_of g player_slot ≡ text_of k player_slot
  pub race : text_of g race_slot ≡ text_of k race_slot
  pub unique_id : text_of g unique_id_slot ≡ text_of k unique_id_slot
  pub country : two_letters (text_of g country_slot) ≡ two_letters (text_of k country_slot)
  pub device_id : text_of g device_id_slot ≡ text_of k device_id_slot
  pub checksum : text_of g checksum_slot ≡ text_of k checksum_slot
  pub metrics_count : g.header.metrics_count ≡ k.header.metrics_count
  pub metrics : block_of g ≡ block_of k
