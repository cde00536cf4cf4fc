-- What is known of a game that can be played, and the number of one that cannot. Assumes nothing.
--     by-work, by-pixels, by-chord, by-none    the refusal, by each test
--     playable    where there is none
use mathlib.Core.Path.{◌≡◌}
use mathlib.Core.Bool.{Bool, true, false}
use mathlib.Core.List.{List, [], ◌∷◌}
use Prim.Native.Nat.{ℕ, ◌*◌, ◌<◌, ◌≤◌}
use native.Mathlib.Omega.{arith}
use lib.Dec.{eqb}
use borrow.Author.Tests.{eq-eqb, ne_eqb, eqb-false}
use Rattle.game.specs.Checks.{Check, ◌when◌, first_of, NoCheckHolds}
use Rattle.game.specs.Refusals.{pixels_zero, buttons_together}
use Rattle.game.specs.Sizes.{work_checks}
use Rattle.game.proofs.Checks.{none-holds, refused-by, fine_by}
use Rattle.game.proofs.Sizes.{work-fine, sized_fine, cells_enough}
use Rattle.playing.specs.Play.{play_checks}

module _ (h w pixels cells entries : ℕ) (chord : Bool) where
  abbrev checks : List Check
  checks = play_checks h w pixels cells entries chord

  -- what comes behind 15, 17 and 24
  abbrev behind : List Check
  behind = (pixels_zero when eqb pixels 0) ∷ (buttons_together when chord) ∷ []

  pub by-work : (r : ℕ) → r ≡ first_of 0 (λ n. n) (work_checks h w cells entries) → (r ≡ 0 → ⊥)
      → r ≡ first_of 0 (λ n. n) checks
  by-work r e some =
      refused-by (first_of 0 (λ n. n) behind) (λ n. n) (work_checks h w cells entries) r e some

  module _ (none : 0 ≡ first_of 0 (λ n. n) (work_checks h w cells entries)) where
    past_work : first_of 0 (λ n. n) checks ≡ first_of 0 (λ n. n) behind
    past_work =
        none-holds (first_of 0 (λ n. n) behind) (λ n. n) (work_checks h w cells entries)
        (work-fine h w cells entries none).none

    pub by-pixels : pixels ≡ 0 → pixels_zero ≡ first_of 0 (λ n. n) checks
    by-pixels z = rw (past_work, eq-eqb pixels 0 z)

    module _ (some : pixels ≡ 0 → ⊥) where
      pub by-chord : chord ≡ true → buttons_together ≡ first_of 0 (λ n. n) checks
      by-chord t = rw (past_work, ne_eqb pixels 0 some, t)

      pub by-none : chord ≡ false → 0 ≡ first_of 0 (λ n. n) checks
      by-none f = rw (past_work, ne_eqb pixels 0 some, f)

  pub record Playable : Type 0 where
    pub tall : h < 256
    pub wide : w < 256
    pub board : h * w ≤ cells
    pub work : h * w ≤ entries
    pub some : pixels ≡ 0 → ⊥
    pub none : NoCheckHolds checks

  pub none-playable : NoCheckHolds checks → Playable
  none-playable none = record {
    tall = (sized_fine h w none.0).0;
    wide = (sized_fine h w none.0).1;
    board = cells_enough h w cells none.1.0;
    work = cells_enough h w entries none.1.1.0;
    some = eqb-false pixels 0 none.1.1.1.0;
    none = none;
  }

  pub playable : 0 ≡ first_of 0 (λ n. n) checks → Playable
  playable e = none-playable (fine_by checks (
    λ z. omega (arith, z),
    (λ z. omega (arith, z), (λ z. omega (arith, z), (λ z. omega (arith, z), (λ z. omega (arith, z), tt)))),
  ) e)
