-- The header of a game (01, Header; 02, note 3). Definitions only.
use Rattle.std.specs.Prelude.{ℕ, List, Bool, false, cond, ◌&&◌, eqb, get_or}
use Rattle.text.specs.declared.Place.{Place}
use Rattle.text.specs.Places.{absent, bytes_at}
use Rattle.lists.specs.Lists.{each}
use Rattle.game.specs.declared.Header.{Header}

-- the nine texts, by their place in the header's array
abbrev pub software_slot : ℕ
software_slot = 0

abbrev pub translated_software_slot : ℕ
translated_software_slot = 1

abbrev pub original_encoding_slot : ℕ
original_encoding_slot = 2

abbrev pub player_slot : ℕ
player_slot = 3

abbrev pub race_slot : ℕ
race_slot = 4

abbrev pub unique_id_slot : ℕ
unique_id_slot = 5

abbrev pub country_slot : ℕ
country_slot = 6

abbrev pub device_id_slot : ℕ
device_id_slot = 7

abbrev pub checksum_slot : ℕ
checksum_slot = 8

-- where one of the nine texts lies, by its slot; absent past the nine
abbrev pub place_at : Header → (slot : ℕ) → Place
place_at h slot = get_or h.texts slot absent

-- its bytes, among those in which the texts lie; an absent one has none
abbrev pub text_at : Header → (bytes : List ℕ) → (slot : ℕ) → List ℕ
text_at h bytes slot = bytes_at bytes (place_at h slot)

-- the bytes of the block of its custom metrics, each text with the 00 that ends it (02, note 3)
abbrev pub block_at : Header → (bytes : List ℕ) → List ℕ
block_at h bytes = bytes_at bytes h.metrics

-- a board of height h, width w and m mines is the one of height a, width b and c mines
abbrev pub is_board : (h w m a b c : ℕ) → Bool
is_board h w m a b c = eqb h a && (eqb w b && eqb m c)

-- beginner, intermediate, expert; any other board is custom
unfoldable pub level_of : (height width mines : ℕ) → ℕ
level_of h w m = cond (is_board h w m 8 8 10) 3
    (cond (is_board h w m 16 16 40) 4 (cond (is_board h w m 16 30 99) 5 6))

-- every value 0, every flag false, every text absent, no custom metrics
abbrev pub blank : Header
blank = record {
  version = 0;
  is_completed = false;
  is_official = false;
  is_fair = false;
  nf = false;
  translated = false;
  use_question = false;
  use_cursor_pos_lim = false;
  use_auto_replay = false;
  height = 0;
  width = 0;
  mine_num = 0;
  cell_pixel_size = 0;
  mode = 0;
  bbbv = 0;
  rtime_ms = record { 0 = 0 };
  start_time = record { 0 = 0 };
  end_time = record { 0 = 0 };
  level = 0;
  mines_found = 0;
  texts = each 9 (λ i. absent);
  metrics = absent;
  metrics_count = 0;
}
