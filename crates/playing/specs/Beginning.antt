-- A game before its first event, for the contracts of the code; no contract of `play` cites this. Definitions
-- only.
use Rattle.std.specs.Prelude.{ℕ, ◌*◌, Bool, not, List, ℤ, length}
use Rattle.lists.specs.Lists.{each}
use Rattle.board.specs.Geometry.{mine_at}
use Rattle.game.specs.Checks.{first_of}
use Rattle.flood.specs.Spread.{size}
use Rattle.flood.specs.Flood.{all_covered}
use Rattle.buttons.specs.declared.Buttons.{Buttons}
use Rattle.moves.specs.declared.Played.TheVariants.{Undecided, Refused}
use Rattle.moves.specs.declared.Position.{Position}
use Rattle.playing.specs.declared.Sizes.{Sizes}
use Rattle.playing.specs.Play.{play_checks}

-- a refused position: it stays so
abbrev pub refused_at : ℕ → Position
refused_at n = record { height = 0; width = 0; pixels = 0; left = 0; stands = Refused n }

-- the cells of the board that hold no mine
abbrev pub safe : List ℤ → ℕ → Bool
safe board j = not (mine_at board j)

-- the refusal before any play, 0 for none
abbrev pub refusal_at : Sizes → (pixels cells entries : ℕ) → Buttons → ℕ
refusal_at sizes pixels cells entries b =
    first_of 0 (λ n. n) (play_checks sizes.height sizes.width pixels cells entries b.chord)

-- the position before the first event
unfoldable pub begun_at : Sizes → (pixels : ℕ) → List ℤ → Buttons → List ℕ → Position
begun_at sizes pixels board b cells =
    first_of
    (record {
      height = sizes.height;
      width = sizes.width;
      pixels = pixels;
      left = size (each (sizes.height * sizes.width) (safe board));
      stands = Undecided;
    })
    refused_at
    (play_checks sizes.height sizes.width pixels (length board) (length cells) b.chord)

-- the lent cells before the first event
unfoldable pub covered_at : Sizes → (pixels : ℕ) → List ℤ → Buttons → List ℕ → List ℕ
covered_at sizes pixels board b cells =
    first_of (all_covered sizes.height sizes.width cells) (λ n. cells)
    (play_checks sizes.height sizes.width pixels (length board) (length cells) b.chord)
