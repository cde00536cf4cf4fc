-- Prefixes of a row that is accepted are accepted, so that the board after each event can be had. Assumes
-- nothing.
use mathlib.Core.Path.{◌≡◌, refl, sym, ◌∙◌, ap}
use mathlib.Core.Bool.{Bool}
use mathlib.Core.List.{List}
use Prim.Native.Nat.{ℕ}
use lib.IntN.{ℤ}
use lib.ListN.{length, take}
use Rattle.game.specs.declared.Event.{Event}
use Rattle.game.specs.Checks.{Check, first_of, NoCheckHolds}
use Rattle.game.proofs.Checks.{none-holds, first-map}
use Rattle.buttons.specs.Chords.{has_chord}
use Rattle.buttons.proofs.Places.{chord_before-take}
use Rattle.moves.specs.declared.Played.TheVariants.{Refused}
use Rattle.machine.specs.Machine.{Verdict, undecided, won, lost}
use Rattle.machine.specs.Answers.{answer_of, number_of}
use Rattle.playing.specs.declared.Sizes.{Sizes}
use Rattle.playing.specs.Play.{play_checks, last_game, play_of}
use Rattle.playing.proofs.Refusing.{playable}

-- a verdict is no refusal
told : (v : Verdict) → number_of (answer_of v) ≡ 0
told undecided = refl
told won = refl
told lost = refl

-- the number of an answer is that of its refusal
pub number_is : (v : Verdict) (cs : List Check) → number_of (first_of (answer_of v) Refused cs)
    ≡ first_of 0 (λ n. n) cs
number_is v cs =
    first-map (answer_of v) Refused number_of cs ∙ ap (λ (n : ℕ). first_of n (λ m. m) cs) (told v)

module _ (sizes : Sizes) (pixels : ℕ) (board : List ℤ) (row : List Event) (cells : List ℕ) where
  abbrev by : Bool → List Check
  by chord = play_checks sizes.height sizes.width pixels (length board) (length cells) chord

  -- an answer without a number is a verdict: no check holds
  none-held : number_of (play_of sizes pixels board row cells) ≡ 0 → NoCheckHolds (by (has_chord row))
  unfolding play_of
  none-held e =
      (playable sizes.height sizes.width pixels (length board) (length cells) (has_chord row)
      (sym e ∙ number_is (last_game sizes pixels board row cells).verdict (by (has_chord row)))).none

  pub accepted-before : (n : ℕ) → number_of (play_of sizes pixels board row cells) ≡ 0
      → number_of (play_of sizes pixels board (take n row) cells) ≡ 0
  unfolding play_of
  accepted-before n e =
      let none = none-held e in
      let fewer : NoCheckHolds (by (has_chord (take n row))) = (
        none.0,
        (
          none.1.0,
          (
            none.1.1.0,
            (
              none.1.1.1.0,
              (chord_before-take n row none.1.1.1.1.0, tt),
            ),
          ),
        ),
      )
      in
      ap number_of
      (none-holds (answer_of (last_game sizes pixels board (take n row) cells).verdict) Refused
      (by (has_chord (take n row))) fewer)
      ∙ told (last_game sizes pixels board (take n row) cells).verdict
