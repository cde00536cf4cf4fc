-- A game before its first event. Assumes nothing.
--     size_next    one cell more
--     begun-refused, covered-refused    the position and the lent cells of a game that is refused
--     begun-fine, covered-fine    and of one that is not
use mathlib.Core.Path.{◌≡◌, ◌∙◌, ap}
use mathlib.Core.Bool.{Bool, cond}
use mathlib.Core.List.{List, [], ◌∷◌}
use Prim.Native.Nat.{ℕ, ◌+◌, ◌*◌}
use native.Mathlib.Omega.{arith}
use lib.IntN.{ℤ}
use lib.ListN.{length}
use Rattle.lists.specs.Lists.{each}
use Rattle.lists.proofs.Each.{each_more, count-append}
use Rattle.flood.specs.Spread.{size}
use Rattle.flood.specs.Flood.{all_covered}
use Rattle.game.specs.Checks.{Check, NoCheckHolds}
use Rattle.game.proofs.Checks.{none-holds, refused-by}
use Rattle.buttons.specs.declared.Buttons.{Buttons}
use Rattle.moves.specs.declared.Position.{Position}
use Rattle.moves.specs.declared.Played.TheVariants.{Undecided}
use Rattle.playing.specs.declared.Sizes.{Sizes}
use Rattle.playing.specs.Play.{play_checks}
use Rattle.playing.specs.Beginning.{refusal_at, refused_at, safe, begun_at, covered_at}

pub size_next : (f : ℕ → Bool) (k : ℕ) → size (each (k + 1) f) ≡ size (each k f) + cond (f k) 1 0
size_next f k =
    ap size (each_more k f) ∙ count-append (λ b. b) (each k f) (f k ∷ [])
    ∙ ap (λ (n : ℕ). size (each k f) + n) (omega arith)

module _ (sizes : Sizes) (pixels : ℕ) (board : List ℤ) (b : Buttons) (cells : List ℕ) where
  abbrev checks : List Check
  checks = play_checks sizes.height sizes.width pixels (length board) (length cells) b.chord

  -- all its cells covered
  abbrev pub first : Position
  first = record {
    height = sizes.height;
    width = sizes.width;
    pixels = pixels;
    left = size (each (sizes.height * sizes.width) (safe board));
    stands = Undecided;
  }

  pub begun-refused : (n : ℕ) → n ≡ refusal_at sizes pixels (length board) (length cells) b → (n ≡ 0 → ⊥)
      → refused_at n ≡ begun_at sizes pixels board b cells
  unfolding begun_at
  begun-refused n e some = refused-by first refused_at checks n e some

  pub covered-refused : (n : ℕ) → n ≡ refusal_at sizes pixels (length board) (length cells) b → (n ≡ 0 → ⊥)
      → cells ≡ covered_at sizes pixels board b cells
  unfolding covered_at
  covered-refused n e some =
      refused-by (all_covered sizes.height sizes.width cells) (λ n. cells) checks n e some

  module _ (none : NoCheckHolds checks) where
    pub begun-fine : begun_at sizes pixels board b cells ≡ first
    unfolding begun_at
    begun-fine = none-holds first refused_at checks none

    pub covered-fine : covered_at sizes pixels board b cells ≡ all_covered sizes.height sizes.width cells
    unfolding covered_at
    covered-fine = none-holds (all_covered sizes.height sizes.width cells) (λ n. cells) checks none
