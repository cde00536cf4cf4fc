-- THE SMALLEST GAMES THAT VERSION 3 TAKES AND DOES NOT KEEP: for each condition of `Plain3` those that break
-- it, beside the smallest that are kept. Each is one step away from a kept one, as its line says. Proved in
-- proofs/Smallest.antt.
use Rattle.std.specs.Prelude.{ℕ, ◌≡◌, Bool, true, false, List, [], ◌∷◌, ℤ, pos, negsuc, length, set}
use Rattle.std.specs.Float.{fin}
use Rattle.lists.specs.Lists.{each}
use Rattle.text.specs.declared.Place.{Place}
use Rattle.text.specs.Places.{absent}
use Rattle.times.specs.Times.{seconds_of, halves_away}
use Rattle.game.specs.declared.Event.{Event}
use Rattle.game.specs.declared.Event.TheVariants.{Mouse, State}
use Rattle.game.specs.declared.MouseKind.TheVariants.{L}
use Rattle.game.specs.declared.GameState.TheVariants.{Replay}
use Rattle.game.specs.Header.{software_slot, translated_software_slot, original_encoding_slot}
use Rattle.game.specs.Same.{Game}
use Rattle.header_software.specs.Software.{arbiter_name, vienna_name, yuan_name}
use Rattle.generate_evf.specs.Written.{writing_number}
use Rattle.read_back.specs.Back.{on_board}
use Rattle.read_back_v3.specs.Back3.{WriteCall, written, ReadsBack3}

-- GAMES

-- of version 3 and height 1, with so many custom metrics in a block; what is not named here is 0 or false;
-- one text at most, which is all its bytes
unfoldable pub metered_with : (block : Place) → (count width level found start end : ℕ) → (translated : Bool)
    → (slot : ℕ) → (text : List ℕ) → List ℤ → List Event → Game
metered_with block count width level found start end translated slot text cells events = record {
  header = record {
    version = 3;
    is_completed = false;
    is_official = false;
    is_fair = false;
    nf = false;
    translated = translated;
    use_question = false;
    use_cursor_pos_lim = false;
    use_auto_replay = false;
    height = 1;
    width = width;
    mine_num = 0;
    cell_pixel_size = 0;
    mode = 0;
    bbbv = 0;
    rtime_ms = record { 0 = 0 };
    start_time = record { 0 = start };
    end_time = record { 0 = end };
    level = level;
    mines_found = found;
    texts = set (each 9 (λ i. absent)) slot (record { start = 0; len = length text });
    metrics = block;
    metrics_count = count;
  };
  bytes = text;
  cells = cells;
  events = events;
}

-- without custom metrics
abbrev pub game_with : (width level found start end : ℕ) → (translated : Bool) → (slot : ℕ)
    → (text : List ℕ) → List ℤ → List Event → Game
game_with = metered_with absent 0

-- of width 0 and without a text, with custom metrics
abbrev pub metered : (block : Place) → (count : ℕ) → (bytes : List ℕ) → Game
metered block count bytes = metered_with block count 0 6 0 0 0 true software_slot bytes [] []

-- of width 0, with a software, a start and an end
abbrev pub named : (software : List ℕ) → (start end : ℕ) → (translated : Bool) → Game
named software start end translated = game_with 0 6 0 start end translated software_slot software [] []

-- of width 0, without a software and so translated, with a text `a` elsewhere
abbrev pub worded : (slot : ℕ) → Game
worded slot = game_with 0 6 0 0 0 true slot (97 ∷ []) [] []

-- the same without a text, of a level and so many mines found
abbrev pub counted : (level found : ℕ) → Game
counted level found = game_with 0 level found 0 0 true software_slot [] [] []

-- of width 1, with a cell
abbrev pub on_cell : ℤ → Game
on_cell cell = game_with 1 6 0 0 0 true software_slot [] (cell ∷ []) []

-- of width 0, with a row
abbrev pub played : List Event → Game
played row = game_with 0 6 0 0 0 true software_slot [] [] row

-- WHAT IS SAID OF THEM

-- version 3 writes it into 64 bytes, by rule 1
abbrev pub Taken : Game → Type 0
Taken g = writing_number halves_away 3 g 64 ≡ 0

-- and whatever file it is written into, by whatever rule, it is read back as itself
pub record Kept (g : Game) : Type 0 where
  pub taken : Taken g
  pub kept : (c : WriteCall) → c.game ≡ g → ReadsBack3 (written c) (on_board g)

-- and it is not
pub record Lost (g : Game) : Type 0 where
  pub taken : Taken g
  pub lost : (c : WriteCall) → c.game ≡ g → ReadsBack3 (written c) (on_board g) → ⊥

abbrev pub All : (Game → Type 0) → List Game → Type 0
All P [] = Unit {0}
All P (g ∷ gs) = P g × All P gs

-- KEPT
abbrev pub kept_games : List Game
kept_games =
    -- no software, and so translated and without start and end
    named [] 0 0 true ∷
    -- 元, which is not translated, with any start and end
    named yuan_name 0 0 false ∷
    named yuan_name 1 2 false ∷
    -- Viennasweeper, with a start of 0 and the game's time, which is 0, as its end
    named vienna_name 0 0 true ∷
    -- a cell that is the number of mines around it
    on_cell (pos 0) ∷
    -- a mouse event at a whole millisecond, of a kind that went out as ub before
    played (Mouse (seconds_of 1) L 0 0 ∷ []) ∷ []

abbrev pub EachKept : Type 0
EachKept = All Kept kept_games

-- LOST
abbrev pub lost_games : List Game
lost_games =
    -- times: a start or an end that the software's name does not tell; Viennasweeper's start counts seconds,
    -- and its end is the game's time; Arbiter's are not read
    named [] 1 0 true ∷
    named [] 0 1 true ∷
    named vienna_name 1 0 true ∷
    named vienna_name 0 1 true ∷
    named arbiter_name 0 0 true ∷
    -- translated: not, though the software is not 元; or so, though it is
    named [] 0 0 false ∷
    named yuan_name 0 0 true ∷
    -- no_translation, no-encoding: a text of a translation
    worded translated_software_slot ∷
    worded original_encoding_slot ∷
    -- no_count, no-metrics: a count without a block, which version 3 does not judge; a block without a count,
    -- in which the software lies too
    metered absent 1 [] ∷
    metered (record { start = 0; len = 1 }) 0 (97 ∷ []) ∷
    -- level, mines-found: another level than that of the sizes, another number than that of the board
    counted 0 0 ∷
    counted 6 1 ∷
    -- numbers: a cell that is neither a mine nor the number of mines around it
    on_cell (pos 1) ∷
    -- timed: a game state; a mouse event at 1 / 2 ^ 11 of a second, which is less than half a millisecond
    played (State (seconds_of 0) Replay ∷ []) ∷
    played (Mouse (fin false 1 (negsuc 10)) L 0 0 ∷ []) ∷ []

abbrev pub EachLost : Type 0
EachLost = All Lost lost_games
