-- The answer of a call that plays a game through, and what it leaves in the lent cells (02, note 6).
-- Definitions only.
use Rattle.std.specs.Prelude.{ℕ, ◌≡◌, Bool, List, [], ◌∷◌, ◌++◌, map, eqb, ℤ, length}
use Rattle.std.proofs.lemmas.List.Edits.{sets}
use Rattle.board.specs.Geometry.{mine_at}
use Rattle.game.specs.declared.Event.{Event}
use Rattle.game.specs.declared.Header.{Header}
use Rattle.game.specs.Checks.{Check, ◌when◌, first_of}
use Rattle.game.specs.Refusals.{pixels_zero, buttons_together}
use Rattle.game.specs.Sizes.{work_checks}
use Rattle.buttons.specs.Chords.{has_chord}
use Rattle.moves.specs.declared.Played.{Played}
use Rattle.moves.specs.declared.Played.TheVariants.{Refused}
use Rattle.machine.specs.Machine.{Game, played}
use Rattle.machine.specs.Answers.{entry_of, answer_of}
use Rattle.playing.specs.declared.Sizes.{Sizes}

-- what is refused, in checking order: 15, 17, 24; then 27, cells of no pixels; then 28, a chord anywhere
abbrev pub play_checks : (h w pixels cells entries : ℕ) → (chord : Bool) → List Check
play_checks h w pixels cells entries chord =
    work_checks h w cells entries
    ++ ((pixels_zero when eqb pixels 0) ∷ (buttons_together when chord) ∷ [])

-- the rows and columns of a game's board
abbrev pub sizes_of : Header → Sizes
sizes_of h = record { height = h.height; width = h.width }

-- so many rows and columns, pixels a cell, a lent board, a row of events and lent cells
module _ (sizes : Sizes) (pixels : ℕ) (board : List ℤ) (row : List Event) (cells : List ℕ) where
  abbrev pub checks : List Check
  checks = play_checks sizes.height sizes.width pixels (length board) (length cells) (has_chord row)

  -- the game after the whole row
  abbrev pub last_game : Game
  last_game = played (mine_at board) sizes.height sizes.width pixels row

  -- the first refusal that holds, else how the game stands
  unfoldable pub play_of : Played
  play_of = first_of (answer_of last_game.verdict) Refused checks

  -- the lent cells: refused, as they were; else the first height × width are the game's
  unfoldable pub cells_left : List ℕ
  cells_left = first_of (sets cells 0 (map entry_of last_game.cells)) (λ n. cells) checks

-- what `play` promises: its answer and every lent entry
pub record Plays (sizes : Sizes) (pixels : ℕ) (board : List ℤ) (row : List Event) (before : List ℕ)
    (r : Played) (after : List ℕ) : Type 0 where
  pub is : r ≡ play_of sizes pixels board row before
  pub cells : after ≡ cells_left sizes pixels board row before
