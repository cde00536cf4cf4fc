-- A whole row judged is what the definitions say: `awards`, what the walk of `badge` asks for. Assumes
-- nothing.
--     fold-spoils    the pass under the newer rule tells just whether an event spoils the badge in the game
--                    that the events before it come to
use mathlib.Core.Path.{◌≡◌, refl, sym, ◌∙◌, ap, subst}
use mathlib.Core.Bool.{Bool, not}
use mathlib.Core.List.{List, foldl}
use Prim.Native.Nat.{ℕ}
use lib.IntN.{ℤ}
use lib.ListN.{length, get_or, take}
use Rattle.board.specs.Geometry.{mine_at}
use Rattle.flood.specs.Spread.{some}
use Rattle.rows.specs.Rows.{no_event}
use Rattle.game.specs.declared.Event.{Event}
use Rattle.game.specs.declared.Header.{Header}
use Rattle.game.specs.Checks.{Check, first_of, NoCheckHolds}
use Rattle.game.proofs.Checks.{first-cases, first-of, first-map}
use Rattle.buttons.specs.declared.Buttons.{Buttons}
use Rattle.buttons.specs.Pressing.{none_down, pressed}
use Rattle.buttons.proofs.Places.{pressed-is, some_same}
use Rattle.moves.specs.declared.Played.{Played}
use Rattle.moves.specs.declared.Played.TheVariants.{Refused as NotPlayed}
use Rattle.moves.specs.declared.Position.{Position}
use Rattle.machine.specs.Machine.{Verdict, undecided, won, lost, Game, played}
use Rattle.machine.specs.Answers.{answer_of}
use Rattle.machine.proofs.PlayOn.{Plays as Keeps}
use Rattle.machine.proofs.Ending.{row_on}
use Rattle.playing.specs.Play.{play_checks, sizes_of, last_game, play_of}
use Rattle.playing.specs.Beginning.{begun_at, covered_at}
use Rattle.playing.proofs.Refusing.{Playable, none-playable}
use Rattle.playing.proofs.Beginning.{begun-fine, covered-fine}
use Rattle.playing.proofs.Through.{plays, start, begins}
use Rattle.badge_rules.specs.declared.Rule.{Rule}
use Rattle.badge_rules.specs.declared.Rule.TheVariants.{Older, Newer}
use Rattle.badge_rules.specs.declared.Wish.{Wish}
use Rattle.badge.specs.declared.Judging.{Judging}
use Rattle.badge_rules.specs.declared.Award.{Award}
use Rattle.badge_rules.specs.declared.Award.TheVariants.{Judged, Refused}
use Rattle.badge.specs.Badge.{older_earned, newer_earned, newer_verdict, game_checks, award_under, left_under}
use Rattle.badge.specs.Badge.{award_of, cells_awarded, Awards}
use Rattle.badge_rules.specs.Rules.{rule_of}
use Rattle.badge_rules.specs.Steps.{no_board, award_by}
use Rattle.badge.specs.Judging.{newer_judging, begun_under, laid_under, begun_judging, begun_cells, judged_by}
use Rattle.badge.specs.Judging.{award_from}
use Rattle.badge.proofs.Falling.{spoils-same}
use Rattle.badge.proofs.Passing.{older-pass, newer-pass, moved_to, entrySpoiledAt}

-- a verdict on the game is no refusal
judged_by_lem : (v : Verdict) (earned claimed : Bool) → award_by (answer_of v) earned claimed ≡ Judged earned claimed
judged_by_lem undecided earned claimed = refl
judged_by_lem won earned claimed = refl
judged_by_lem lost earned claimed = refl

-- what is refused of a game is refused of its badge
award_first : (v : Verdict) (earned claimed : Bool) (cs : List Check)
    → award_by (first_of (answer_of v) NotPlayed cs) earned claimed ≡ first_of (Judged earned claimed) Refused cs
award_first v earned claimed cs =
    first-map (answer_of v) NotPlayed (λ (t : Played). award_by t earned claimed) cs
    ∙ ap (λ (a : Award). first_of a Refused cs) (judged_by_lem v earned claimed)

-- where it is refused the verdict does not matter
same_first : (b b' claimed : Bool) (cs : List Check) → (NoCheckHolds cs → b ≡ b')
    → first_of (Judged b claimed) Refused cs ≡ first_of (Judged b' claimed) Refused cs
same_first b b' claimed cs same =
    first-cases 0 (λ n. n) cs
    (λ n. first_of (Judged b claimed) Refused cs ≡ first_of (Judged b' claimed) Refused cs)
    (λ none. ap (λ (x : Bool). first_of (Judged x claimed) Refused cs) (same none))
    (λ n f. first-of (Judged b claimed) Refused cs n f ∙ sym (first-of (Judged b' claimed) Refused cs n f))

module _ (h : Header) (board : List ℤ) (row : List Event) (cells : List ℕ) where
  abbrev pixels : ℕ
  pixels = h.cell_pixel_size

  abbrev seen : Buttons
  seen = foldl pressed none_down row

  -- what the play begins with
  abbrev begun : Position × List ℕ
  begun = (begun_at (sizes_of h) pixels board seen cells, covered_at (sizes_of h) pixels board seen cells)

  abbrev by : Bool → List Check
  by chord = play_checks h.height h.width pixels (length board) (length cells) chord

  -- NOT REFUSED
  module _ (none : NoCheckHolds (game_checks h board row cells)) where
    none_seen : NoCheckHolds (by seen.chord)
    none_seen = subst (λ (chord : Bool). NoCheckHolds (by chord)) (sym (pressed-is row)) none

    abbrev can : Playable h.height h.width pixels (length board) (length cells) seen.chord
    can = none-playable h.height h.width pixels (length board) (length cells) seen.chord none_seen

    abbrev Stands : Game → Position × List ℕ → Type 0
    Stands g q = Keeps board h.height h.width pixels cells can.work can.some g q.0 q.1

    begins-so : Stands (start (sizes_of h) pixels board row cells) begun
    begins-so =
        rw (
          begun-fine (sizes_of h) pixels board seen cells none_seen,
          covered-fine (sizes_of h) pixels board seen cells none_seen,
        ) (begins (sizes_of h) pixels board row cells seen.chord none_seen)

    -- position and lent cells are those of the machine's game after any first events
    stands_at : (i : ℕ) → Stands (played (mine_at board) h.height h.width pixels (take i row))
        (moved_to board row h.nf begun i)
    unfolding played
    stands_at i =
        row_on board h.height h.width pixels cells can.work can.some (take i row)
        (start (sizes_of h) pixels board row cells) begun begins-so

    places_same : not (some (entrySpoiledAt board row h.nf begun) (length row))
        ≡ newer_verdict h board row cells
    unfolding newer_earned
    places_same =
        ap not
        (some_same _ _ (length row)
        (λ i l. spoils-same board h.height h.width pixels cells can.work can.some _ _ _
        (stands_at i) (get_or row i no_event)))

    pub fold-spoils : (foldl (judged_by board) (newer_judging begun.0 h.nf, begun.1) row).0.earned
        ≡ newer_verdict h board row cells
    fold-spoils =
        ap (λ (s : Judging × List ℕ). s.0.earned) (newer-pass board row h.nf begun) ∙ places_same

  -- BOTH RULES
  abbrev last : Rule → Judging × List ℕ
  last rule = foldl (judged_by board)
      (begun_under h board seen cells rule, laid_under h board seen cells rule) row

  abbrev Ends : Rule → Type 0
  Ends rule = (award_from (last rule).0 ≡ award_under h board row cells rule)
      × ((last rule).1 ≡ left_under h board row cells rule)

  under : (rule : Rule) → Ends rule
  unfolding older_earned play_of
  under Older =
      let e = older-pass board row h.nf no_board cells in
      (ap (λ (s : Judging × List ℕ). award_from s.0) e, ap (λ (s : Judging × List ℕ). s.1) e)
  under Newer =
      let e = newer-pass board row h.nf begun in
      let earned = not (some (entrySpoiledAt board row h.nf begun) (length row)) in
      let p = plays (sizes_of h) pixels board row cells in (
        ap (λ (s : Judging × List ℕ). award_from s.0) e
            ∙ ap (λ (t : Played). award_by t earned h.nf) p.is
            ∙ award_first (last_game (sizes_of h) pixels board row cells).verdict earned h.nf
            (game_checks h board row cells)
            ∙ same_first earned (newer_verdict h board row cells) h.nf (game_checks h board row cells)
            places_same,
        ap (λ (s : Judging × List ℕ). s.1) e ∙ p.cells,
      )

  pub awards : (wish : Wish) → Awards wish h board row cells
      (award_from (foldl (judged_by board)
      (begun_judging wish h board seen cells, begun_cells wish h board seen cells) row).0)
      (foldl (judged_by board) (begun_judging wish h board seen cells, begun_cells wish h board seen cells) row
      ).1
  unfolding begun_judging begun_cells award_of cells_awarded
  awards wish =
      let e = under (rule_of wish h.version) in
      record { is = e.0; cells = e.1 }

  -- step by step, as `badge` has it
  pub awards-through : (wish : Wish) {b0 b : Buttons} {s s' : Judging} {c c' : List ℕ} {r : Award}
      → b0 ≡ none_down → b ≡ foldl pressed b0 row → s ≡ begun_judging wish h board b cells
      → c ≡ begun_cells wish h board b cells → s' ≡ (foldl (judged_by board) (s, c) row).0
      → c' ≡ (foldl (judged_by board) (s, c) row).1 → r ≡ award_from s' → Awards wish h board row cells r c'
  awards-through wish {b0} {b} {s} {s'} {c} {c'} {r} none down at on s-is c-is r-is =
      let all : b ≡ seen = down ∙ ap (λ (x : Buttons). foldl pressed x row) none in
      let from-is : s ≡ begun_judging wish h board seen cells =
      at ∙ ap (λ (x : Buttons). begun_judging wish h board x cells) all in
      let laid-is : c ≡ begun_cells wish h board seen cells =
      on ∙ ap (λ (x : Buttons). begun_cells wish h board x cells) all in
      let same : foldl (judged_by board) (s, c) row
      ≡ foldl (judged_by board)
      (begun_judging wish h board seen cells, begun_cells wish h board seen cells) row
      = ap (λ (x : Judging). foldl (judged_by board) (x, c) row) from-is
      ∙ ap (λ (x : List ℕ). foldl (judged_by board) (begun_judging wish h board seen cells, x) row) laid-is in
      record {
        is = r-is ∙ ap award_from s-is ∙ ap (λ (q : Judging × List ℕ). award_from q.0) same
            ∙ (awards wish).is;
        cells = c-is ∙ ap (λ (q : Judging × List ℕ). q.1) same ∙ (awards wish).cells;
      }
