-- A FILE PLAYED THROUGH without a row: it is read into a lent board, and `play` is had of its first n events
-- (02, note 6). Definitions only.
use Rattle.std.specs.Prelude.{ℕ, ◌*◌, ◌≡◌, cond, List, ltb, ℤ, length, take}
use Rattle.std.proofs.lemmas.List.Edits.{sets}
use Rattle.text.specs.declared.Place.{Place}
use Rattle.game.specs.declared.Event.{Event}
use Rattle.game.specs.declared.Header.{Header}
use Rattle.game.specs.Refusals.{board_buffer_short}
use Rattle.evf_video.specs.Reading.{Reading, game, none, reading_of, cells_at}
use Rattle.moves.specs.declared.Played.{Played}
use Rattle.moves.specs.declared.Played.TheVariants.{Undecided, Won, Lost, Refused}
use Rattle.playing.specs.declared.Sizes.{Sizes}
use Rattle.playing.specs.Play.{play_of, cells_left}

abbrev pub sizes_of : Header → Sizes
sizes_of h = record { height = h.height; width = h.width }

-- the lent board once the game's cells are in it
abbrev pub board_read : (file : List ℕ) → Header → Place → List ℤ → List ℤ
board_read file h place board = sets board 0 (cells_at file h place)

-- what a lent board is: as it was where the call is refused
abbrev pub unless_refused : {A : Type 0} → Played → (was is : A) → A
unless_refused (Refused n) was is = was
unless_refused Undecided was is = is
unless_refused Won was is = is
unless_refused Lost was is = is

-- a file, so many of its events, a lent board and lent cells
module _ (file : List ℕ) (n : ℕ) (board : List ℤ) (cells : List ℕ) where
  -- 11 where the board is too short, else the call's answer
  unfoldable pub game_play : Header → Place → List Event → Played
  game_play h place es =
      cond (ltb (length board) (h.height * h.width)) (Refused board_buffer_short)
      (play_of (sizes_of h) h.cell_pixel_size (board_read file h place board) (take n es) cells)

  -- the refusal of the reading, 1 to 10, else that of its game
  abbrev pub answer_by : Reading → Played
  answer_by (game h place es) = game_play h place es
  answer_by (none m) = Refused m

  abbrev pub board_by : Reading → List ℤ
  board_by (game h place es) = unless_refused (game_play h place es) board (board_read file h place board)
  board_by (none m) = board

  abbrev pub cells_by : Reading → List ℕ
  cells_by (game h place es) =
      cond (ltb (length board) (h.height * h.width)) cells
      (cells_left (sizes_of h) h.cell_pixel_size (board_read file h place board) (take n es) cells)
  cells_by (none m) = cells

  unfoldable pub file_play : Played
  file_play = answer_by (reading_of file)

  unfoldable pub board_played : List ℤ
  board_played = board_by (reading_of file)

  unfoldable pub cells_played : List ℕ
  cells_played = cells_by (reading_of file)

-- what `play_file` promises: its answer, every cell of the lent board and every lent entry
pub record PlaysFile (file : List ℕ) (n : ℕ) (board : List ℤ) (cells : List ℕ) (r : Played)
    (board' : List ℤ) (cells' : List ℕ) : Type 0 where
  pub is : r ≡ file_play file n board cells
  pub board_is : board' ≡ board_played file n board cells
  pub cells_is : cells' ≡ cells_played file n board cells

-- one number for hosts: that of the refusal, all of which are below 64; 64 undecided, 65 won, 66 lost
abbrev pub host_number : Played → ℕ
host_number Undecided = 64
host_number Won = 65
host_number Lost = 66
host_number (Refused m) = m

-- what `evf_play` promises: the same, with one number for its answer
pub record HostPlays (file : List ℕ) (n : ℕ) (board : List ℤ) (cells : List ℕ) (r : ℕ)
    (board' : List ℤ) (cells' : List ℕ) : Type 0 where
  pub is : r ≡ host_number (file_play file n board cells)
  pub board_is : board' ≡ board_played file n board cells
  pub cells_is : cells' ≡ cells_played file n board cells
