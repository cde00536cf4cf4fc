-- The marked examples of 01, and those of notes 1 and 5 of 02, as one table: what is asked of the
-- definitions, and the answer that the document states. Definitions only.
use Rattle.std.specs.Prelude.{ℕ, Bool, true, false, List, [], ◌∷◌, ◌++◌, map, Float, take, ℤ, pos, negsuc}
use Rattle.std.specs.Float.{fin, binary64}
use Rattle.std.specs.Float.Ieee.{to_bits}
use Rattle.std.specs.Prelude.{Option, Some, None}
use Rattle.text.specs.declared.Place.{Place}
use Rattle.text.specs.Places.{absent, bytes_at}
use Rattle.text.specs.Decimals.{decimal_of}
use Rattle.lists.specs.Lists.{each}
use Rattle.times.specs.Times.{seconds_of, halves_away, halves_to_even, converted_by}
use Rattle.times.specs.declared.Converted.{Converted}
use Rattle.times.specs.declared.Converted.TheVariants.{Ms, Refused as NoRule}
use Rattle.byte_reader.specs.Numbers.{bytes_of}
use Rattle.game.specs.declared.Header.{Header}
use Rattle.game.specs.declared.Event.{Event}
use Rattle.game.specs.declared.Event.TheVariants.{Mouse, State}
use Rattle.game.specs.declared.MouseKind.{MouseKind}
use Rattle.game.specs.declared.MouseKind.TheVariants.{Mv, Lc, Lr, L, R, M, Ub}
use Rattle.game.specs.declared.GameState.{GameState}
use Rattle.evf_video.specs.Reading.{Reading, game, none, cells_at}
use Rattle.evf_video.specs.Parsed.{parse_of}
use Rattle.game.specs.Same.{Game}
use Rattle.generate_evf.specs.declared.Written.{Written}
use Rattle.generate_evf.specs.declared.Written.TheVariants.{Bytes, Refused, Short}
use Rattle.generate_evf.specs.Written.{written_of, file_then}
use Rattle.upgrade.specs.Copy.{copied_by, copy_by}

-- WHAT IS ASKED

pub data Question : Type 0 where
  -- M1 to M3, M7, M8: a file, read into buffers of so many cells and entries
  parsing : (file : List ℕ) → (cells entries : ℕ) → Question
  -- M8: a text as a decimal number
  decimal : (text : List ℕ) → Question
  -- M9: seconds in milliseconds, by a rule
  rounding : (seconds : Float) → (rule : ℕ) → Question
  -- M3, M5 to M7, M9: a game, written by rule 1 as version 3 or 4 into a file of so many bytes
  writing : (version : ℕ) → Game → (room : ℕ) → Question
  -- M4: a file, upgraded by rule 1 into a copy of so many bytes, with a board and a row of so many cells and
  -- entries
  upgrading : (file : List ℕ) → (cells entries room : ℕ) → Question

-- AND ANSWERED

-- an event with the bits of its seconds
pub data Moment : Type 0 where
  mouse : MouseKind → (bits x y : ℕ) → Moment
  state : GameState → (bits : ℕ) → Moment

-- a game by its values, with the bytes of its board and of its nine texts instead of their places
pub record Shown : Type 0 where
  -- version, height, width, mines, cell pixels, mode, 3BV, time, start, end, level, mines found
  pub values : List ℕ
  -- completed, official, fair, nf, translated, question marks, cursor limit, auto replay
  pub flags : List Bool
  pub texts : List (List ℕ)
  pub packed : List ℕ
  pub cells : List ℤ
  pub events : List Moment

pub data Answer : Type 0 where
  refusal : ℕ → Answer
  played : Shown → Answer
  number : Option ℕ → Answer
  milliseconds : ℕ → Answer
  -- the bytes that were written
  wrote : List ℕ → Answer
  -- the length that would be needed
  short : ℕ → Answer

unfoldable pub moment : Event → Moment
moment (Mouse seconds kind x y) = mouse kind (to_bits binary64 seconds) x y
moment (State seconds s) = state s (to_bits binary64 seconds)

unfoldable pub values_of : Header → List ℕ
values_of h =
    h.version ∷ h.height ∷ h.width ∷ h.mine_num ∷ h.cell_pixel_size ∷ h.mode ∷ h.bbbv ∷
    h.rtime_ms.0 ∷ h.start_time.0 ∷ h.end_time.0 ∷ h.level ∷ h.mines_found ∷ []

unfoldable pub flags_of : Header → List Bool
flags_of h =
    h.is_completed ∷ h.is_official ∷ h.is_fair ∷ h.nf ∷ h.translated ∷
    h.use_question ∷ h.use_cursor_pos_lim ∷ h.use_auto_replay ∷ []

unfoldable pub shown : List ℕ → Reading → Answer
shown file (game h board es) = played (record {
  values = values_of h;
  flags = flags_of h;
  texts = map (bytes_at file) h.texts;
  packed = bytes_at file board;
  cells = cells_at file h board;
  events = map moment es;
})
shown file (none n) = refusal n

-- the answer of a writer with the first bytes of the file that it leaves
unfoldable pub shown_written : (file : List ℕ) → Written → Answer
shown_written file (Bytes n) = wrote (take n file)
shown_written file (Refused k) = refusal k
shown_written file (Short n) = short n

unfoldable pub shown_ms : Converted → Answer
shown_ms (Ms ms) = milliseconds ms.0
shown_ms (NoRule k) = refusal k

-- by the definitions that the contracts of `parse`, `decimal`, `s_to_ms`, the writers and `upgrade` cite
unfoldable pub answer_to : Question → Answer
answer_to (parsing file cells entries) = shown file (parse_of file cells entries)
answer_to (decimal text) = number (decimal_of text)
answer_to (rounding seconds rule) = shown_ms (converted_by rule seconds)
answer_to (writing version g room) =
    shown_written (file_then halves_away version g (each room (λ i. 0))) (written_of halves_away version g room)
answer_to (upgrading file cells entries room) =
    let R = parse_of file cells entries in
    shown_written (copy_by halves_away file R (each room (λ i. 0))) (copied_by halves_away file R room)

-- THE TABLE

pub record Example : Type 0 where
  pub asked : Question
  pub answer : Answer

infixl 10 ◌gives◌
abbrev pub ◌gives◌ : Question → Answer → Example
q gives a = record { asked = q; answer = a }

-- the bits of 0.005 and of 0.3: 5 and 300 milliseconds in seconds
abbrev pub bits5 : ℕ
bits5 = 0x3F747AE147AE147B

abbrev pub bits300 : ℕ
bits300 = 0x3FD3333333333333

-- a mine, and beside it a cell that counts it
abbrev pub two_cells : List ℤ
two_cells = negsuc 0 ∷ pos 1 ∷ []

abbrev pub place_at : (start len : ℕ) → Place
place_at start len = record { start = start; len = len }

-- M3's file
unfoldable pub version3 : List ℕ
version3 =
    0x03 ∷ 0x90 ∷ 0x00 ∷ 0x01 ∷ 0x02 ∷ 0x00 ∷ 0x01 ∷ 0x10 ∷ 0x00 ∷ 0x00 ∷ 0x00 ∷ 0x01 ∷ 0x00 ∷ 0x03 ∷ 0xE8 ∷
    0xE5 ∷ 0x85 ∷ 0x83 ∷ 0x00 ∷ 0x50 ∷ 0x00 ∷ 0x00 ∷ 0x00 ∷ 0x31 ∷ 0x00 ∷ 0x32 ∷ 0x00 ∷ 0x63 ∷ 0x6E ∷
    0x00 ∷ 0x00 ∷ 0x80 ∷
    0x02 ∷ 0x00 ∷ 0x00 ∷ 0x05 ∷ 0x00 ∷ 0x08 ∷ 0x00 ∷ 0x08 ∷ 0x03 ∷ 0x00 ∷ 0x01 ∷ 0x2C ∷ 0x00 ∷ 0x07 ∷
    0x00 ∷ 0x08 ∷ 0xFF ∷ []

-- the same with another player and other event records
unfoldable pub version3_of : (player records : List ℕ) → List ℕ
version3_of player records =
    (0x03 ∷ 0x90 ∷ 0x00 ∷ 0x01 ∷ 0x02 ∷ 0x00 ∷ 0x01 ∷ 0x10 ∷ 0x00 ∷ 0x00 ∷ 0x00 ∷ 0x01 ∷ 0x00 ∷ 0x03 ∷
    0xE8 ∷ []) ++
    (0xE5 ∷ 0x85 ∷ 0x83 ∷ 0x00 ∷ []) ++ player ++
    (0x00 ∷ 0x00 ∷ 0x00 ∷ 0x31 ∷ 0x00 ∷ 0x32 ∷ 0x00 ∷ 0x63 ∷ 0x6E ∷ 0x00 ∷ 0x00 ∷ 0x80 ∷
    []) ++ records ++ (0xFF ∷ [])

-- its two events at other milliseconds, each below 65536
unfoldable pub two_events : (ms₁ ms₂ : ℕ) → List ℕ
two_events ms₁ ms₂ =
    (0x02 ∷ 0x00 ∷ bytes_of 2 ms₁) ++ (0x00 ∷ 0x08 ∷ 0x00 ∷ 0x08 ∷ []) ++
    (0x03 ∷ 0x00 ∷ bytes_of 2 ms₂) ++ (0x00 ∷ 0x07 ∷ 0x00 ∷ 0x08 ∷ [])

-- M4's file: 65 bytes
unfoldable pub upgraded : List ℕ
upgraded =
    0x04 ∷ 0x90 ∷ 0x00 ∷ 0x01 ∷ 0x02 ∷ 0x00 ∷ 0x01 ∷ 0x10 ∷ 0x00 ∷ 0x00 ∷ 0x00 ∷ 0x01 ∷ 0x00 ∷ 0x00 ∷
    0x03 ∷ 0xE8 ∷
    0x43 ∷ 0x4E ∷ 0x00 ∷ 0x00 ∷ 0x00 ∷ 0x00 ∷ 0x00 ∷ 0x00 ∷ 0x00 ∷ 0x01 ∷ 0x00 ∷ 0x00 ∷ 0x00 ∷ 0x00 ∷
    0x00 ∷ 0x00 ∷ 0x00 ∷ 0x02 ∷
    0xE5 ∷ 0x85 ∷ 0x83 ∷ 0x00 ∷ 0x50 ∷ 0x00 ∷ 0x00 ∷ 0x00 ∷ 0x00 ∷ 0x00 ∷ 0x80 ∷ 0x00 ∷ 0x00 ∷
    0x02 ∷ 0x05 ∷ 0x00 ∷ 0x08 ∷ 0x00 ∷ 0x08 ∷ 0xFF ∷ 0x01 ∷ 0x27 ∷ 0x03 ∷ 0x00 ∷ 0xFF ∷ 0xFF ∷ 0x00 ∷
    0x00 ∷ 0x00 ∷ 0x00 ∷ 0x00 ∷ []

-- M3's file with another height, width, start text and packed board, and no events
unfoldable pub version3_with : (height width : ℕ) → (start packed : List ℕ) → List ℕ
version3_with height width start packed =
    (0x03 ∷ 0x90 ∷ 0x00 ∷ height ∷ width ∷ 0x00 ∷ 0x01 ∷ 0x10 ∷ 0x00 ∷ 0x00 ∷ 0x00 ∷ 0x01 ∷ 0x00 ∷ 0x03 ∷
    0xE8 ∷ []) ++
    (0xE5 ∷ 0x85 ∷ 0x83 ∷ 0x00 ∷ 0x50 ∷ 0x00 ∷ 0x00 ∷ 0x00 ∷ []) ++ start ++
    (0x00 ∷ 0x32 ∷ 0x00 ∷ 0x63 ∷ 0x6E ∷ 0x00 ∷ 0x00 ∷ []) ++ packed ++ (0xFF ∷ [])

-- M4's file with other event records
unfoldable pub version4 : (records : List ℕ) → List ℕ
version4 records =
    (0x04 ∷ 0x90 ∷ 0x00 ∷ 0x01 ∷ 0x02 ∷ 0x00 ∷ 0x01 ∷ 0x10 ∷ 0x00 ∷ 0x00 ∷ 0x00 ∷ 0x01 ∷ 0x00 ∷ 0x00 ∷
    0x03 ∷ 0xE8 ∷ []) ++
    (0x43 ∷ 0x4E ∷ 0x00 ∷ 0x00 ∷ 0x00 ∷ 0x00 ∷ 0x00 ∷ 0x00 ∷ 0x00 ∷ 0x01 ∷ 0x00 ∷ 0x00 ∷ 0x00 ∷ 0x00 ∷
    0x00 ∷ 0x00 ∷ 0x00 ∷ 0x02 ∷ []) ++
    (0xE5 ∷ 0x85 ∷ 0x83 ∷ 0x00 ∷ 0x50 ∷ 0x00 ∷ 0x00 ∷ 0x00 ∷ 0x00 ∷ 0x00 ∷ 0x80 ∷ 0x00 ∷ 0x00 ∷ []) ++
    records ++ (0x00 ∷ 0x00 ∷ 0x00 ∷ [])

-- the two events of M4 at other milliseconds and another wait
unfoldable pub moved : (ms wait : ℕ) → List ℕ
moved ms wait = 0x02 ∷ ms ∷ 0x00 ∷ 0x08 ∷ 0x00 ∷ 0x08 ∷ 0x03 ∷ wait ∷ 0xFF ∷ 0xFF ∷ 0x00 ∷ 0x00 ∷ []

-- the mouse moves at 5 ms from 65535, 8 to 0, 8: x goes on by 1
unfoldable pub wrapped : List ℕ
wrapped = 0x01 ∷ 0x05 ∷ 0xFF ∷ 0xFF ∷ 0x00 ∷ 0x08 ∷ 0x01 ∷ 0x00 ∷ 0x00 ∷ 0x01 ∷ 0x00 ∷ 0x00 ∷ []

-- the left button goes down at 0 ms at 8, 8, and after some records up at the same place
unfoldable pub pressed : (between : List ℕ) → List ℕ
pressed between = (0x02 ∷ 0x00 ∷ 0x00 ∷ 0x08 ∷ 0x00 ∷ 0x08 ∷ []) ++ between
    ++ (0x00 ∷ 0x00 ∷ 0x00 ∷ 0x00 ∷ [])

-- the game of these files, its texts one behind the other, with other events
unfoldable pub game_of : List Event → Game
game_of events = record {
  header = record {
    version = 3;
    is_completed = true;
    is_official = false;
    is_fair = false;
    nf = true;
    translated = false;
    use_question = false;
    use_cursor_pos_lim = false;
    use_auto_replay = false;
    height = 1;
    width = 2;
    mine_num = 1;
    cell_pixel_size = 16;
    mode = 0;
    bbbv = 1;
    rtime_ms = record { 0 = 1000 };
    start_time = record { 0 = 1 };
    end_time = record { 0 = 2 };
    level = 6;
    mines_found = 1;
    texts = place_at 0 3 ∷ absent ∷ absent ∷ place_at 3 1 ∷ absent ∷ absent ∷ place_at 4 2 ∷ absent ∷ absent ∷
        [];
    metrics = absent;
    metrics_count = 0;
  };
  bytes = 0xE5 ∷ 0x85 ∷ 0x83 ∷ 0x50 ∷ 0x63 ∷ 0x6E ∷ [];
  cells = two_cells;
  events = events;
}

-- a mouse event at its milliseconds
abbrev pub event : MouseKind → (ms x y : ℕ) → Event
event kind ms x y = Mouse (seconds_of ms) kind x y

-- events of the kinds l, r, m and ub, and their records in version 3: codes 10, 11, 12 and 99
unfoldable pub touches : List Event
touches = event L 5 8 8 ∷ event R 5 7 8 ∷ event M 300 8 7 ∷ event Ub 300 7 7 ∷ []

unfoldable pub touched : List ℕ
touched =
    0x0A ∷ 0x00 ∷ 0x00 ∷ 0x05 ∷ 0x00 ∷ 0x08 ∷ 0x00 ∷ 0x08 ∷ 0x0B ∷ 0x00 ∷ 0x00 ∷ 0x05 ∷ 0x00 ∷ 0x07 ∷
    0x00 ∷ 0x08 ∷
    0x0C ∷ 0x00 ∷ 0x01 ∷ 0x2C ∷ 0x00 ∷ 0x08 ∷ 0x00 ∷ 0x07 ∷ 0x63 ∷ 0x00 ∷ 0x01 ∷ 0x2C ∷ 0x00 ∷ 0x07 ∷
    0x00 ∷ 0x07 ∷ []

-- what these files read as: completed, nf, height 1, 1 mine told, 16 pixels, mode 0, 3BV 1, 1000 ms, end 2,
-- custom, software 元, player `P`
unfoldable pub alike : (version width start found : ℕ) → (country packed : List ℕ) → List ℤ → List Moment
    → Shown
alike version width start found country packed cells events = record {
  values = version ∷ 1 ∷ width ∷ 1 ∷ 16 ∷ 0 ∷ 1 ∷ 1000 ∷ start ∷ 2 ∷ 6 ∷ found ∷ [];
  flags = true ∷ false ∷ false ∷ true ∷ false ∷ false ∷ false ∷ false ∷ [];
  texts = (0xE5 ∷ 0x85 ∷ 0x83 ∷ []) ∷ [] ∷ [] ∷ (0x50 ∷ []) ∷ [] ∷ [] ∷ country ∷ [] ∷ [] ∷ [];
  packed = packed;
  cells = cells;
  events = events;
}

-- `cn` and `CN`, `1`, `+7` and `+`
abbrev pub small : List ℕ
small = 0x63 ∷ 0x6E ∷ []

abbrev pub capital : List ℕ
capital = 0x43 ∷ 0x4E ∷ []

abbrev pub digit : List ℕ
digit = 0x31 ∷ []

abbrev pub plus_seven : List ℕ
plus_seven = 0x2B ∷ 0x37 ∷ []

abbrev pub plus : List ℕ
plus = 0x2B ∷ []

unfoldable pub table : List Example
table =
    -- M1
    (parsing [] 2 2 gives refusal 1) ∷
    (parsing (0x05 ∷ []) 2 2 gives refusal 2) ∷
    -- M2
    (parsing (version3_with 0 2 digit []) 2 2 gives refusal 7) ∷
    (parsing (version3_with 1 0 digit []) 0 0 gives played (alike 3 0 1 0 small [] [] [])) ∷
    -- M3
    (parsing version3 2 2 gives
    played (alike 3 2 1 1 small (0x80 ∷ []) two_cells (mouse Lc bits5 8 8 ∷ mouse Lr bits300 7 8 ∷ []))) ∷
    -- and written: its game as version 3
    (writing 3 (game_of (event Lc 5 8 8 ∷ event Lr 300 7 8 ∷ [])) 80 gives wrote version3) ∷
    -- the four kinds behind cc in version 3 (02, note 1), and read back
    (writing 3 (game_of touches) 80 gives wrote (version3_of (0x50 ∷ []) touched)) ∷
    (parsing (version3_of (0x50 ∷ []) touched) 2 4 gives
    played (alike 3 2 1 1 small (0x80 ∷ []) two_cells
    (mouse L bits5 8 8 ∷ mouse R bits5 7 8 ∷ mouse M bits300 8 7 ∷ mouse Ub bits300 7 7 ∷ []))) ∷
    -- M4
    (upgrading version3 2 2 80 gives wrote upgraded) ∷
    -- M3's upgrade refused with 19, 21 and 22, and accepted beside each: a player that is UTF-8, a first
    -- event at 255 ms, and a second at the milliseconds of the first (20, for 65536 bytes, stands in
    -- exact_sets)
    (upgrading (version3_of (0xFF ∷ []) (two_events 5 300)) 2 2 80 gives refusal 19) ∷
    (upgrading (version3_of (0x50 ∷ []) (two_events 5 300)) 2 2 80 gives wrote upgraded) ∷
    (upgrading (version3_of (0x50 ∷ []) (two_events 256 300)) 2 2 80 gives refusal 21) ∷
    (upgrading (version3_of (0x50 ∷ []) (two_events 255 300)) 2 2 80 gives wrote (version4 (moved 0xFF 0x2D))) ∷
    (upgrading (version3_of (0x50 ∷ []) (two_events 5 4)) 2 2 80 gives refusal 22) ∷
    (upgrading (version3_of (0x50 ∷ []) (two_events 5 5)) 2 2 80 gives wrote (version4 (moved 0x05 0x00))) ∷
    -- M5
    (writing 4 (game_of (event Mv 255 65535 8 ∷ [])) 80 gives
    wrote (version4 (0x01 ∷ 0xFF ∷ 0xFF ∷ 0xFF ∷ 0x00 ∷ 0x08 ∷ []))) ∷
    (writing 4 (game_of (event Mv 256 65535 8 ∷ [])) 80 gives refusal 21) ∷
    -- M6
    (writing 4 (game_of (event Lc 0 8 8 ∷ event Lr 255 8 8 ∷ [])) 80 gives
    wrote (version4 (pressed (0x03 ∷ 0xFF ∷ [])))) ∷
    (writing 4 (game_of (event Lc 0 8 8 ∷ event Lr 256 8 8 ∷ [])) 80 gives
    wrote (version4 (pressed (0xFF ∷ 0x01 ∷ 0x00 ∷ 0x03 ∷ 0x00 ∷ [])))) ∷
    (writing 4 (game_of (event Lc 0 8 8 ∷ event Lr 65791 8 8 ∷ [])) 80 gives
    wrote (version4 (pressed (0xFF ∷ 0xFF ∷ 0xFF ∷ 0xFF ∷ 0x01 ∷ 0x00 ∷ 0x03 ∷ 0x00 ∷ [])))) ∷
    -- M7, written and read
    (writing 4 (game_of (event Mv 5 65535 8 ∷ event Mv 5 0 8 ∷ [])) 80 gives wrote (version4 wrapped)) ∷
    (parsing (version4 wrapped) 2 2 gives
    played (alike 4 2 1 1 capital (0x80 ∷ []) two_cells (mouse Mv bits5 65535 8 ∷ mouse Mv bits5 0 8 ∷ []))) ∷
    -- M8
    (decimal plus_seven gives number (Some 7)) ∷
    (decimal [] gives number None) ∷
    (decimal plus gives number None) ∷
    (parsing (version3_with 1 2 plus_seven (0x80 ∷ [])) 2 2 gives
    played (alike 3 2 7 1 small (0x80 ∷ []) two_cells [])) ∷
    (parsing (version3_with 1 2 [] (0x80 ∷ [])) 2 2 gives refusal 5) ∷
    (parsing (version3_with 1 2 plus (0x80 ∷ [])) 2 2 gives refusal 5) ∷
    -- M9: 0.0625 is 1 / 2 ^ 4, by itself and as it is written
    (rounding (fin false 1 (negsuc 3)) halves_away gives milliseconds 63) ∷
    -- the same to even; and 0.1875, which is 3 / 2 ^ 4, either way (02, note 5); and no rule
    (rounding (fin false 1 (negsuc 3)) halves_to_even gives milliseconds 62) ∷
    (rounding (fin false 3 (negsuc 3)) halves_away gives milliseconds 188) ∷
    (rounding (fin false 3 (negsuc 3)) halves_to_even gives milliseconds 188) ∷
    (rounding (fin false 1 (negsuc 3)) 3 gives refusal 26) ∷
    (writing 4 (game_of (Mouse (fin false 1 (negsuc 3)) Mv 65535 8 ∷ [])) 80 gives
    wrote (version4 (0x01 ∷ 0x3F ∷ 0xFF ∷ 0xFF ∷ 0x00 ∷ 0x08 ∷ []))) ∷ []
