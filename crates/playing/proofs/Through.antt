-- A whole play is the machine's: `plays`, what the walk of `play` asks for. Assumes nothing.
use mathlib.Core.Path.{◌≡◌, refl, sym, ◌∙◌, ap}
use mathlib.Core.Bool.{Bool, true, false, not, ◌&&◌}
use mathlib.Core.List.{List, foldl, map}
use Prim.Native.Nat.{ℕ, ◌*◌, ◌<◌}
use lib.IntN.{ℤ}
use lib.ListN.{length}
use lib.Seq.{sets}
use Rattle.lists.specs.Lists.{each}
use Rattle.lists.proofs.Each.{length-each, getD-each, each_same}
use Rattle.board.specs.Geometry.{mine_at}
use Rattle.flood.specs.Spread.{size}
use Rattle.flood.specs.Flood.{all_covered}
use Rattle.flood.proofs.Covering.{cover_all, cover-long, cover-past}
use Rattle.game.specs.declared.Event.{Event}
use Rattle.game.specs.Checks.{Check, first_of, NoCheckHolds, First}
use Rattle.game.proofs.Checks.{first-cases, first-of, none-holds}
use Rattle.buttons.specs.declared.Buttons.{Buttons}
use Rattle.buttons.specs.Chords.{has_chord}
use Rattle.buttons.specs.Pressing.{none_down, pressed}
use Rattle.buttons.proofs.Places.{pressed-is}
use Rattle.moves.specs.declared.Played.{Played}
use Rattle.moves.specs.declared.Played.TheVariants.{Refused}
use Rattle.moves.specs.declared.Position.{Position}
use Rattle.machine.specs.Machine.{Cell, covered, is_uncovered, undecided, Game, cell_at, to_do, played}
use Rattle.machine.specs.Answers.{entry_of, answer_of}
use Rattle.moves.specs.Moves.{moved_by}
use Rattle.machine.proofs.PlayOn.{Plays as Keeps}
use Rattle.moves.proofs.Resting.{row-rests}
use Rattle.machine.proofs.Ending.{row_on, told, left}
use Rattle.playing.specs.declared.Sizes.{Sizes}
use Rattle.playing.specs.Play.{play_checks, last_game, play_of, cells_left, Plays}
use Rattle.playing.specs.Beginning.{refused_at, safe, begun_at, covered_at}
use Rattle.playing.proofs.Refusing.{Playable, none-playable}
use Rattle.playing.proofs.Beginning.{first}

module _ (sizes : Sizes) (pixels : ℕ) (board : List ℤ) (row : List Event) (cells : List ℕ) where
  abbrev h : ℕ
  h = sizes.height

  abbrev w : ℕ
  w = sizes.width

  abbrev checks : Bool → List Check
  checks chord = play_checks h w pixels (length board) (length cells) chord

  -- the play from a position and its lent cells, by which the row's walk says its answer
  abbrev last : Position → List ℕ → Position × List ℕ
  last p c = foldl (moved_by board) (p, c) row

  abbrev pub start : Game
  start = record { cells = each (h * w) (λ j. covered); verdict = undecided }

  and-false : (b c : Bool) → c ≡ false → (b && c) ≡ false
  and-false true c e = e
  and-false false c e = refl

  and-true : (b c : Bool) → c ≡ true → (b && c) ≡ b
  and-true true c e = e
  and-true false c e = refl

  -- NOT REFUSED
  module _ (chord : Bool) (none : NoCheckHolds (checks chord)) where
    abbrev can : Playable h w pixels (length board) (length cells) chord
    can = none-playable h w pixels (length board) (length cells) chord none

    all-covered : (j : ℕ) → j < h * w → cell_at start.cells j ≡ covered
    all-covered j l = getD-each (h * w) j (λ i. covered) covered l

    pub begins : Keeps board h w pixels cells can.work can.some start
        (first sizes pixels board none_down cells) (all_covered h w cells)
    begins = record {
      left = size (each (h * w) (safe board));
      is = refl;
      many = length-each (h * w) (λ i. covered);
      long = cover-long h w cells can.work;
      on = λ j l. cover_all h w cells can.work j l ∙ sym (ap entry_of (all-covered j l));
      past = cover-past h w cells can.work;
      safe = λ u j l. and-false (mine_at board j) (is_uncovered (cell_at start.cells j))
          (ap is_uncovered (all-covered j l));
      count = λ u. ap size (each_same (h * w) (safe board) (to_do (mine_at board) h w start.cells)
          (λ j l. sym (and-true (not (mine_at board j)) (not (is_uncovered (cell_at start.cells j)))
          (ap (λ (c : Cell). not (is_uncovered c)) (all-covered j l)))));
    }

    abbrev end : Position × List ℕ
    end = last (first sizes pixels board none_down cells) (all_covered h w cells)

    ends : Keeps board h w pixels cells can.work can.some (last_game sizes pixels board row cells)
        end.0 end.1
    unfolding played
    ends = row_on board h w pixels cells can.work can.some row start
        (first sizes pixels board none_down cells, all_covered h w cells) begins

  -- BOTH

  -- the first position and the lent cells then, by the checks
  abbrev from : Bool → Position
  from chord = first_of (first sizes pixels board none_down cells) refused_at (checks chord)

  abbrev laid : Bool → List ℕ
  laid chord = first_of (all_covered h w cells) (λ n. cells) (checks chord)

  abbrev game : Game
  game = last_game sizes pixels board row cells

  abbrev Ends : Bool → Type 0
  Ends chord =
      ((last (from chord) (laid chord)).0.stands
      ≡ first_of (answer_of game.verdict) Refused (checks chord))
      × ((last (from chord) (laid chord)).1
      ≡ first_of (sets cells 0 (map entry_of game.cells)) (λ n. cells) (checks chord))

  -- the last position and the lent cells, where these are the first
  from_is : (chord : Bool) (p : Position) (c : List ℕ) → from chord ≡ p → laid chord ≡ c
      → last (from chord) (laid chord) ≡ last p c
  from_is chord p c e f = ap (λ (q : Position). last q (laid chord)) e ∙ ap (last p) f

  fine : (chord : Bool) → NoCheckHolds (checks chord) → Ends chord
  fine chord none =
      let p = first sizes pixels board none_down cells in
      let e = from_is chord p (all_covered h w cells)
      (none-holds p refused_at (checks chord) none)
      (none-holds (all_covered h w cells) (λ n. cells) (checks chord) none) in
      let can = none-playable h w pixels (length board) (length cells) chord none in
      let s = ends chord none in (
        ap (λ (q : Position × List ℕ). q.0.stands) e
            ∙ told board h w pixels cells can.work can.some game _ _ s
            ∙ sym (none-holds (answer_of game.verdict) Refused (checks chord) none),
        ap (λ (q : Position × List ℕ). q.1) e
            ∙ left board h w pixels cells can.work can.some game _ _ s
            ∙ sym (none-holds (sets cells 0 (map entry_of game.cells)) (λ n. cells) (checks chord) none),
      )

  refused : (chord : Bool) (n : ℕ) → First (checks chord) n → Ends chord
  refused chord n f =
      let e = from_is chord (refused_at n) cells
      (first-of (first sizes pixels board none_down cells) refused_at (checks chord) n f)
      (first-of (all_covered h w cells) (λ n. cells) (checks chord) n f)
      ∙ row-rests board cells (refused_at n) refl row in (
        ap (λ (q : Position × List ℕ). q.0.stands) e
            ∙ sym (first-of (answer_of game.verdict) Refused (checks chord) n f),
        ap (λ (q : Position × List ℕ). q.1) e
            ∙ sym (first-of (sets cells 0 (map entry_of game.cells)) (λ n. cells) (checks chord) n f),
      )

  ends_by : (chord : Bool) → Ends chord
  ends_by chord = first-cases 0 (λ n. n) (checks chord) (λ n. Ends chord) (fine chord) (refused chord)

  abbrev seen : Buttons
  seen = foldl pressed none_down row

  pub plays : Plays sizes pixels board row cells
      (last (begun_at sizes pixels board seen cells) (covered_at sizes pixels board seen cells)).0.stands
      (last (begun_at sizes pixels board seen cells) (covered_at sizes pixels board seen cells)).1
  unfolding begun_at covered_at play_of cells_left
  plays =
      let e = ends_by seen.chord in
      let chord : seen.chord ≡ has_chord row = pressed-is row in
      record {
        is = e.0 ∙ ap (λ (c : Bool). first_of (answer_of game.verdict) Refused (checks c)) chord;
        cells = e.1
            ∙ ap (λ (c : Bool). first_of (sets cells 0 (map entry_of game.cells)) (λ n. cells) (checks c))
            chord;
      }

  -- step by step, as `play` has it
  pub plays-through : {b0 b : Buttons} {p p' : Position} {c c' : List ℕ} {r : Played} → b0 ≡ none_down
      → b ≡ foldl pressed b0 row → p ≡ begun_at sizes pixels board b cells
      → c ≡ covered_at sizes pixels board b cells → p' ≡ (last p c).0 → c' ≡ (last p c).1 → r ≡ p'.stands
      → Plays sizes pixels board row cells r c'
  plays-through {b0} {b} {p} {p'} {c} {c'} {r} none down at on p-is c-is r-is =
      let all : b ≡ seen = down ∙ ap (λ (x : Buttons). foldl pressed x row) none in
      let from-is : p ≡ begun_at sizes pixels board seen cells =
      at ∙ ap (λ (x : Buttons). begun_at sizes pixels board x cells) all in
      let laid-is : c ≡ covered_at sizes pixels board seen cells =
      on ∙ ap (λ (x : Buttons). covered_at sizes pixels board x cells) all in
      let same : last p c ≡ last (begun_at sizes pixels board seen cells) (covered_at sizes pixels board seen cells)
      = ap (λ (x : Position). last x c) from-is
      ∙ ap (λ (x : List ℕ). last (begun_at sizes pixels board seen cells) x) laid-is in
      record {
        is = r-is ∙ ap (λ (x : Position). x.stands) p-is ∙ ap (λ (s : Position × List ℕ). s.0.stands) same
            ∙ plays.is;
        cells = c-is ∙ ap (λ (s : Position × List ℕ). s.1) same ∙ plays.cells;
      }
