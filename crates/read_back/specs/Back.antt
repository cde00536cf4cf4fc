-- What the law that a file of version 4 reads back is of, and what it says (01, "Version 4 writer and
-- upgrade"). Definitions only.
use Rattle.std.specs.Prelude.{ℕ, ◌^◌, ◌<◌, ◌≡◌, true, false, List, [], Float, length, take}
use Rattle.text.specs.declared.Place.{Place}
use Rattle.text.specs.Words.{Word}
use Rattle.board.specs.Geometry.{cells, mine_at, mines_in}
use Rattle.game.specs.declared.Event.{Event}
use Rattle.game.specs.declared.Header.{Header}
use Rattle.game.specs.Header.{level_of, software_slot, translated_software_slot, original_encoding_slot, player_slot}
use Rattle.game.specs.Header.{race_slot, unique_id_slot, country_slot, device_id_slot, checksum_slot}
use Rattle.game.specs.Country.{two_letters}
use Rattle.game.specs.Same.{Game, text_of, block_of, SameGame}
use Rattle.metrics.specs.Texts.{Texts}
use Rattle.evf_video.specs.Reading.{game, reading_of, game_read}
use Rattle.evf_records.specs.Refusals.{no_start, falls_after}
use Rattle.fields_back.specs.Fits.{SizesFit}
use Rattle.read_back.specs.Saved.{Places, Timed, area}

-- THE GAMES THAT VERSION 4 HOLDS

-- texts, custom metrics and events are such that a file of version 4 can say them: none of 19 to 22 and 25 is
-- the case
pub record Sayable (toMs : Float → ℕ) (g : Game) : Type 0 where
  pub software : Word (text_of g software_slot)
  pub translated_software : g.header.translated ≡ true → Word (text_of g translated_software_slot)
  pub original_encoding : g.header.translated ≡ true → Word (text_of g original_encoding_slot)
  pub player : Word (text_of g player_slot)
  pub race : Word (text_of g race_slot)
  pub unique_id : Word (text_of g unique_id_slot)
  pub device_id : length (text_of g device_id_slot) < 65536
  pub checksum : length (text_of g checksum_slot) < 65536
  pub metrics : Texts g.header.metrics_count (block_of g)
  pub begins : no_start toMs g.events ≡ false
  pub rises : falls_after toMs 0 g.events ≡ false

-- and so are its numbers: neither 15 nor 18 is the case, and the others are of their type in memory. Nothing
-- is asked of the board, since a cell past its end is no mine.
pub record Holdable (toMs : Float → ℕ) (g : Game) : Type 0 where
  pub sizes : SizesFit g.header
  pub time : g.header.rtime_ms.0 < 2 ^ 32
  pub start : g.header.start_time.0 < 2 ^ 64
  pub end : g.header.end_time.0 < 2 ^ 64
  pub metrics_count : g.header.metrics_count < 65536
  pub positions : Places g.events
  pub says : Sayable toMs g

-- what the types of its fields in memory give of a game's numbers and positions, where no check asks for it
pub record InTypes (g : Game) : Type 0 where
  pub cell_pixels : g.header.cell_pixel_size < 256
  pub mode : g.header.mode < 65536
  pub time : g.header.rtime_ms.0 < 2 ^ 32
  pub start : g.header.start_time.0 < 2 ^ 64
  pub end : g.header.end_time.0 < 2 ^ 64
  pub metrics_count : g.header.metrics_count < 65536
  pub positions : Places g.events

-- THE GAMES THAT ARE SAVED AS THEMSELVES

-- the game of a lent board, of which the first height × width cells count
abbrev pub on_board : Game → Game
on_board g =
    record { header = g.header; bytes = g.bytes; cells = take (area g) g.cells; events = g.events }

-- in any version: cells, level and mines found are those that a reading gives, and the row is one of mouse
-- events at whole milliseconds
pub record Plain (g : Game) : Type 0 where
  pub numbers : take (area g) g.cells ≡ cells (mine_at g.cells) g.header.height g.header.width
  pub level : g.header.level ≡ level_of g.header.height g.header.width g.header.mine_num
  pub mines_found : g.header.mines_found ≡ mines_in (mine_at g.cells) (area g)
  pub timed : Timed g.events

-- in version 4: there is a translation, or no text of one
pub record Plain4 (g : Game) : Type 0 where
  pub plain : Plain g
  pub no_translation : g.header.translated ≡ false → text_of g translated_software_slot ≡ []
  pub no_encoding : g.header.translated ≡ false → text_of g original_encoding_slot ≡ []

-- READ BACK: a file that reads as g, in the layout of a version, its country's bytes being `form`
pub record ReadsAs (layout : ℕ) (form file : List ℕ) (g : Game) : Type 0 where
  pub header : Header
  pub board : Place
  pub events : List Event
  pub reads : reading_of file ≡ game header board events
  pub same : SameGame (game_read file header board events) g
  pub version : header.version ≡ layout
  pub country : text_of (game_read file header board events) country_slot ≡ form

-- THE LAW: a file of version 4 that reads as g, and whose country is the two-letter form of g's
abbrev pub ReadsBack : (file : List ℕ) → Game → Type 0
ReadsBack file g = ReadsAs 4 (two_letters (text_of g country_slot)) file g
