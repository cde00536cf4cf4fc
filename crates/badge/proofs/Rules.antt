-- HOW THE TWO RULES STAND TO EACH OTHER, to playing and to the version (02, note 7). Assumes nothing.
--     older-newer    a badge under the older rule is one under the newer, where that gives a verdict
--     newer-plays    the newer rule refuses just where playing does, and leaves the same cells
--     older-keeps    the older refuses nothing, and changes no entry
--     by_version     without a rule wished for versions 0 to 3 are judged by the older, any other by the newer
use mathlib.Core.Path.{◌≡◌, refl, sym, ◌∙◌, ap}
use mathlib.Core.Logic.{⊎_elim}
use mathlib.Core.Bool.{Bool, true, false, not, true≢false}
use mathlib.Core.List.{List}
use Prim.Native.Nat.{ℕ, ◌≤◌, ◌<◌}
use lib.IntN.{ℤ}
use lib.ListN.{length}
use borrow.Author.Tests.{le-leb, lt-leb}
use Rattle.flood.specs.Spread.{some}
use Rattle.flood.proofs.Sets.{some_in, true_or_false}
use Rattle.game.specs.declared.Event.{Event}
use Rattle.game.specs.declared.MouseKind.TheVariants.{Rc}
use Rattle.game.specs.declared.Header.{Header}
use Rattle.game.specs.Checks.{Check, first_of}
use Rattle.game.proofs.Checks.{first-cases, first-map}
use Rattle.buttons.specs.Chords.{kind_at}
use Rattle.buttons.proofs.Places.{some-none}
use Rattle.machine.specs.Answers.{number_of as playedNumber}
use Rattle.playing.specs.Play.{sizes_of, last_game, play_of, cells_left}
use Rattle.playing.proofs.Prefixes.{number_is}
use Rattle.badge_rules.specs.declared.Rule.TheVariants.{Older, Newer}
use Rattle.badge_rules.specs.declared.Wish.TheVariants.{Version, Under}
use Rattle.badge_rules.specs.declared.Award.TheVariants.{Judged, Refused}
use Rattle.badge.specs.Badge.{older_earned, newer_earned, newer_verdict, game_checks, award_of}
use Rattle.badge.specs.Badge.{cells_awarded}
use Rattle.badge_rules.specs.Rules.{number_of}

-- a test that no place passes
none-at : (p : ℕ → Bool) (n i : ℕ) → not (some p n) ≡ true → i < n → p i ≡ false
none-at p n i e l =
    ⊎_elim
    (λ t. absurd (true≢false (sym e ∙ ap not (some_in p n i l t))))
    (λ f. f)
    (true_or_false (p i))

-- a verdict is the one that was given
verdict_is : (b b' c c' : Bool) (cs : List Check) → first_of (Judged b c) Refused cs ≡ Judged b' c' → b ≡ b'
verdict_is b b' c c' cs =
    first-cases (Judged b c) Refused cs (λ a. a ≡ Judged b' c' → b ≡ b') (λ none e. cc)
    (λ n f e. cc)

module _ (h : Header) (board : List ℤ) (row : List Event) (cells : List ℕ) where
  -- without an rc nothing spoils the badge
  none-spoils : older_earned row ≡ true → newer_verdict h board row cells ≡ true
  unfolding older_earned newer_earned
  none-spoils e =
      ap not
      (some-none _ (length row) (λ i l. rw (none-at (kind_at row Rc) (length row) i e l)))

  pub older-newer : (claimed claimed' earned : Bool)
      → award_of (Under Older) h board row cells ≡ Judged true claimed
      → award_of (Under Newer) h board row cells ≡ Judged earned claimed'
      → earned ≡ true
  unfolding award_of
  older-newer claimed claimed' earned e f =
      let older : older_earned row ≡ true = cc in
      sym (verdict_is (newer_verdict h board row cells) earned h.nf claimed' (game_checks h board row cells) f)
      ∙ none-spoils older

  -- the answers have one number, 0 for a verdict, and the lent cells are the same
  pub newer-plays :
      (number_of (award_of (Under Newer) h board row cells)
      ≡ playedNumber (play_of (sizes_of h) h.cell_pixel_size board row cells))
      × (cells_awarded (Under Newer) h board row cells
      ≡ cells_left (sizes_of h) h.cell_pixel_size board row cells)
  unfolding award_of cells_awarded play_of
  newer-plays = (
    first-map (Judged (newer_verdict h board row cells) h.nf) Refused number_of (game_checks h board row cells)
        ∙ sym (number_is (last_game (sizes_of h) h.cell_pixel_size board row cells).verdict
        (game_checks h board row cells)),
    refl,
  )

  pub older-keeps : (award_of (Under Older) h board row cells ≡ Judged (older_earned row) h.nf)
      × (cells_awarded (Under Older) h board row cells ≡ cells)
  unfolding award_of cells_awarded
  older-keeps = (refl, refl)

  pub by-version-older : h.version ≤ 3
      → (award_of Version h board row cells ≡ award_of (Under Older) h board row cells)
      × (cells_awarded Version h board row cells ≡ cells_awarded (Under Older) h board row cells)
  unfolding award_of cells_awarded
  by-version-older l = rw (le-leb h.version 3 l) (refl, refl)

  pub by-version-newer : 3 < h.version
      → (award_of Version h board row cells ≡ award_of (Under Newer) h board row cells)
      × (cells_awarded Version h board row cells ≡ cells_awarded (Under Newer) h board row cells)
  unfolding award_of cells_awarded
  by-version-newer l = rw (lt-leb h.version 3 l) (refl, refl)
