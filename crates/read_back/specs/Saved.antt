-- What a game is saved as (01, Header, Board, "Version 4 writer and upgrade", "Version 3 writer"; 02, note
-- 3), and the rows that its laws are of. Definitions only. How seconds become milliseconds is a parameter,
-- `toMs`.
use Rattle.std.specs.Prelude.{ℕ, ◌*◌, ◌^◌, ◌<◌, ◌≡◌, List, [], ◌∷◌, ◌++◌, Float}
use Rattle.times.specs.Times.{seconds_of}
use Rattle.board.specs.Geometry.{cells, mine_at, mines_in}
use Rattle.game.specs.declared.MouseKind.{MouseKind}
use Rattle.game.specs.declared.GameState.{GameState}
use Rattle.game.specs.declared.Event.{Event}
use Rattle.game.specs.declared.Event.TheVariants.{Mouse, State}
use Rattle.game.specs.declared.Header.{Header}
use Rattle.game.specs.Header.{level_of}
use Rattle.game.specs.Same.{Game}
use Rattle.fields_back.specs.Carried.{Carried, carried4, saved_texts}

-- EVENTS
module _ (toMs : Float → ℕ) where
  -- a mouse event is kept at its whole milliseconds; game states are not written
  abbrev pub saved_event : Event → List Event
  saved_event (Mouse seconds kind x y) = Mouse (seconds_of (toMs seconds)) kind x y ∷ []
  saved_event (State seconds state) = []

  abbrev pub saved_events : List Event → List Event
  saved_events [] = []
  saved_events (e ∷ es) = saved_event e ++ saved_events es

-- the mouse events of a row
abbrev pub mouse_events : List Event → List Event
mouse_events [] = []
mouse_events (Mouse seconds kind x y ∷ es) = Mouse seconds kind x y ∷ mouse_events es
mouse_events (State seconds state ∷ es) = mouse_events es

-- every position is one of 16 bits, as those of a row in memory are
pub data Places : List Event → Type 0 where
  none : Places []
  mouse : {seconds : Float} {kind : MouseKind} {x y : ℕ} {es : List Event} → x < 65536 → y < 65536 → Places es
      → Places (Mouse seconds kind x y ∷ es)
  state : {seconds : Float} {game : GameState} {es : List Event} → Places es
      → Places (State seconds game ∷ es)

-- mouse events only, each at a count of milliseconds that a u32 holds
pub data Timed : List Event → Type 0 where
  no_events : Timed []
  at_ms : {seconds : Float} {kind : MouseKind} {x y ms : ℕ} {es : List Event} → seconds ≡ seconds_of ms
      → ms < 2 ^ 32 → Timed es → Timed (Mouse seconds kind x y ∷ es)

-- HEADER

-- what a version carries of a header; level and mines found are not written, and come from the sizes and the
-- board
abbrev pub saved_header : (version : ℕ) → Carried → (found : ℕ) → Header → Header
saved_header version carried found h = record {
  version = version;
  is_completed = h.is_completed;
  is_official = h.is_official;
  is_fair = h.is_fair;
  nf = h.nf;
  translated = carried.translated;
  use_question = h.use_question;
  use_cursor_pos_lim = h.use_cursor_pos_lim;
  use_auto_replay = h.use_auto_replay;
  height = h.height;
  width = h.width;
  mine_num = h.mine_num;
  cell_pixel_size = h.cell_pixel_size;
  mode = h.mode;
  bbbv = h.bbbv;
  rtime_ms = h.rtime_ms;
  start_time = carried.span.start;
  end_time = carried.span.end;
  level = level_of h.height h.width h.mine_num;
  mines_found = found;
  texts = saved_texts carried.translation h;
  metrics = carried.metrics;
  metrics_count = carried.metrics_count;
}

-- A GAME

-- how many cells its board has
abbrev pub area : Game → ℕ
area g = g.header.height * g.header.width

-- Of the board only the mines are written: a cell that is no mine comes back as its number. In version 4 a
-- country goes out in its two-letter form, by which games are compared, so here it stays as it is.
abbrev pub saved_as : (version : ℕ) → Carried → (toMs : Float → ℕ) → Game → Game
saved_as version carried toMs g = record {
  header = saved_header version carried (mines_in (mine_at g.cells) (area g)) g.header;
  bytes = g.bytes;
  cells = cells (mine_at g.cells) g.header.height g.header.width;
  events = saved_events toMs g.events;
}

-- in version 4
abbrev pub saved_game : (toMs : Float → ℕ) → Game → Game
saved_game toMs g = saved_as 4 (carried4 g) toMs g
