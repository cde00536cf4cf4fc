-- A file before its first event is played, for the contracts of the code; no contract of `play_file` cites
-- this. Definitions only.
use Rattle.std.specs.Prelude.{ℕ, ◌*◌, ◌≡◌, cond, ltb, ℤ, length, take}
use mathlib.Core.List.{List, foldl}
use Rattle.text.specs.declared.Place.{Place}
use Rattle.game.specs.declared.Event.{Event}
use Rattle.game.specs.declared.Header.{Header}
use Rattle.game.specs.Refusals.{board_buffer_short}
use Rattle.evf_video.specs.Reading.{Reading, game, none, reading_of}
use Rattle.evf_video.specs.Judging.{start_of}
use Rattle.buttons.specs.Pressing.{none_down, pressed}
use Rattle.moves.specs.declared.Position.{Position}
use Rattle.playing.specs.Beginning.{refused_at, begun_at, covered_at}
use Rattle.file_play.specs.declared.Start.{Start}
use Rattle.file_play.specs.FilePlay.{sizes_of, board_read, unless_refused}

-- a game of a file, the events of it that are to be played, a lent board and lent cells
module _ (file : List ℕ) (h : Header) (place : Place) (es : List Event) (board : List ℤ) (cells : List ℕ)
  where
    -- the position before the first event: refused with 11, or as the call begins in the board read
    unfoldable pub start_at : Position
    start_at =
        cond (ltb (length board) (h.height * h.width)) (refused_at board_buffer_short)
        (begun_at (sizes_of h) h.cell_pixel_size (board_read file h place board) (foldl pressed none_down es)
        cells)

    -- the lent cells then
    unfoldable pub start_cells : List ℕ
    start_cells =
        cond (ltb (length board) (h.height * h.width)) cells
        (covered_at (sizes_of h) h.cell_pixel_size (board_read file h place board) (foldl pressed none_down es)
        cells)

    -- what `ready_game` promises: its position, every cell of the lent board and every lent entry
    pub record StartsGame (p : Position) (board' : List ℤ) (cells' : List ℕ) : Type 0 where
      pub is : p ≡ start_at
      pub board_is : board' ≡ unless_refused p.stands board (board_read file h place board)
      pub cells_is : cells' ≡ start_cells

-- what `start_file` promises of a file's reading, and so of a file
module _ (file : List ℕ) (n : ℕ) (board : List ℤ) (cells : List ℕ) (r : Start) (board' : List ℤ)
    (cells' : List ℕ) where
  abbrev pub StartsBy : Reading → Type 0
  StartsBy (game h place es) =
      (r.cursor ≡ start_of file) × StartsGame file h place (take n es) board cells r.position board' cells'
  StartsBy (none m) = (r.position ≡ refused_at m) × ((board' ≡ board) × (cells' ≡ cells))

  unfoldable pub StartsFile : Type 0
  StartsFile = StartsBy (reading_of file)
