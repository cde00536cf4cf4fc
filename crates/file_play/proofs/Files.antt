-- A whole file played. Assumes nothing.
--     first-take     so many steps of the cursor give so many of a game's events
--     starts-game, starts_none    what was judged is ready to be played
--     plays-file     and played is what the call of its first events comes to
use Prim.Native.Nat.{ℕ, zero, suc, ◌*◌, ◌≤◌, ◌<◌}
use mathlib.Core.Path.{◌≡◌, refl, sym, ap, subst, ◌∙◌}
use mathlib.Core.Logic.{⊎_elim}
use mathlib.Core.Bool.{Bool}
use mathlib.Core.List.{List, ◌∷◌, foldl}
use lib.IntN.{ℤ}
use lib.ListN.{length, take}
use borrow.Author.Tests.{lt-ltb, le-ltb}
use Rattle.text.specs.declared.Place.{Place}
use Rattle.board.proofs.Places.{lt-or_ge}
use Rattle.game.specs.declared.Event.{Event}
use Rattle.game.specs.declared.Header.{Header}
use Rattle.game.specs.Checks.{Check, first_of}
use Rattle.game.specs.Refusals.{board_buffer_short}
use Rattle.game.proofs.Checks.{first-cases, first-of, none-holds}
use Rattle.evf_events.specs.declared.EventCursor.{EventCursor}
use Rattle.evf_events.specs.Events.{first_events}
use Rattle.evf_events.proofs.Firsts.{first_next, first-end}
use Rattle.evf_video.specs.declared.Judged.{Judged}
use Rattle.evf_video.specs.declared.Outcome.TheVariants.{Read, Refused as Unread}
use Rattle.evf_video.specs.Reading.{Reading, game, none, reading_of}
use Rattle.evf_video.specs.Judging.{start_of, judged_of}
use Rattle.evf_video.proofs.Judging.{is_game, is_none}
use Rattle.evf_video.proofs.Singly.{Singly, over, next, singly}
use Rattle.buttons.specs.declared.Buttons.{Buttons}
use Rattle.buttons.specs.Pressing.{none_down, pressed}
use Rattle.buttons.proofs.Places.{pressed-is}
use Rattle.moves.specs.declared.Played.{Played}
use Rattle.moves.specs.declared.Played.TheVariants.{Undecided, Won, Lost, Refused}
use Rattle.moves.specs.declared.Position.{Position}
use Rattle.machine.specs.Machine.{Verdict, undecided, won, lost}
use Rattle.machine.specs.Answers.{answer_of}
use Rattle.moves.specs.Moves.{goes_on, moved_by}
use Rattle.moves.proofs.Resting.{row-rests}
use Rattle.playing.specs.Play.{play_checks, last_game, play_of, cells_left}
use Rattle.playing.specs.Beginning.{refused_at, begun_at, covered_at}
use Rattle.playing.proofs.Through.{plays}
use Rattle.file_play.specs.declared.Start.{Start}
use Rattle.file_play.specs.FilePlay.{sizes_of, board_read, unless_refused, game_play, answer_by, board_by}
use Rattle.file_play.specs.FilePlay.{cells_by, file_play, board_played, cells_played, PlaysFile}
use Rattle.file_play.specs.Starting.{start_at, start_cells, StartsGame, StartsBy, StartsFile}
use Rattle.file_play.proofs.Started.{start-long, cells-long}

pub first-take : {file : List ℕ} {c : EventCursor} {es : List Event} → Singly file c es → (n : ℕ)
    → first_events n file c ≡ take n es
unfolding first_events
first-take {file} {c} (over q) zero = refl
first-take {file} {c} (over q) (suc n) = first-end file c (suc n) q
first-take {file} {c} (next q s) zero = refl
first-take {file} {c} (next {e = e} q s) (suc n) =
    first_next file c n q ∙ ap (λ (ds : List Event). e ∷ ds) (first-take s n)

module _ (file : List ℕ) (n : ℕ) (board : List ℤ) (cells : List ℕ) where
  -- JUDGED
  module _ (j : Judged) (e : j ≡ judged_of file) {p : Position} {d : List ℤ} {k : List ℕ} where
    pub starts-game : j.outcome ≡ Read
        → StartsGame file j.header j.board (first_events n file j.cursor) board cells p d k
        → StartsFile file n board cells (record { position = p; cursor = j.cursor }) d k
    unfolding judged_of StartsFile
    starts-game o s =
        let g = is_game (start_of file) (reading_of file) j e o in
        let same : first_events n file j.cursor ≡ take n g.events =
        ap (first_events n file) g.cursor_is
        ∙ first-take (singly file j.header j.board g.events g.is) n in
        rw g.is (
          g.cursor_is,
          subst (λ (es : List Event). StartsGame file j.header j.board es board cells p d k) same s,
        )

    pub starts_none : (m : ℕ) → j.outcome ≡ Unread m → p ≡ refused_at m → d ≡ board → k ≡ cells
        → StartsFile file n board cells (record { position = p; cursor = j.cursor }) d k
    unfolding judged_of StartsFile
    starts_none m o f b c = rw (is_none (start_of file) (reading_of file) j m e o) (f, (b, c))

  -- what the play of a reading comes to, by the definition
  pub record Comes (R : Reading) (a : Played) (left : List ℤ) (last : List ℕ) : Type 0 where
    pub answer_is : a ≡ answer_by file n board cells R
    pub board_is : left ≡ board_by file n board cells R
    pub cells_is : last ≡ cells_by file n board cells R

  -- A GAME, the events of it that are played, and what the play began with
  module _ (h : Header) (place : Place) (es : List Event) (p : Position) (d : List ℤ) (k : List ℕ)
      (s : StartsGame file h place es board cells p d k) where
    abbrev B : List ℤ
    B = board_read file h place board

    abbrev pixels : ℕ
    pixels = h.cell_pixel_size

    -- a refused position rests on any board, and else the lent board is the one read
    on_read : (t : Played) → p.stands ≡ t → d ≡ unless_refused t board B
        → foldl (moved_by d) (p, k) es ≡ foldl (moved_by B) (p, k) es
    on_read Undecided e f = ap (λ (x : List ℤ). foldl (moved_by x) (p, k) es) f
    on_read Won e f = ap (λ (x : List ℤ). foldl (moved_by x) (p, k) es) f
    on_read Lost e f = ap (λ (x : List ℤ). foldl (moved_by x) (p, k) es) f
    on_read (Refused m) e f = row-rests d k p (ap goes_on e) es ∙ sym (row-rests B k p (ap goes_on e) es)

    -- 11
    module _ (l : length board < h.height * h.width) where
      short-at : p ≡ refused_at board_buffer_short
      unfolding start_at
      short-at = s.is ∙ rw (lt-ltb (length board) (h.height * h.width) l)

      short-cells : k ≡ cells
      unfolding start_cells
      short-cells = s.cells_is ∙ rw (lt-ltb (length board) (h.height * h.width) l)

      pub short-last : foldl (moved_by d) (p, k) es ≡ (refused_at board_buffer_short, cells)
      short-last =
          row-rests d k p (ap (λ (q : Position). goes_on q.stands) short-at) es
          ∙ ap (λ (q : Position). (q, k)) short-at
          ∙ ap (λ (c : List ℕ). (refused_at board_buffer_short, c)) short-cells

      pub short-board : d ≡ board
      short-board = s.board_is ∙ ap (λ (q : Position). unless_refused q.stands board B) short-at

    -- the call's own checks
    module _ (l : h.height * h.width ≤ length board) where
      abbrev seen : Buttons
      seen = foldl pressed none_down es

      long-last : foldl (moved_by d) (p, k) es
          ≡ foldl (moved_by B)
          (begun_at (sizes_of h) pixels B seen cells, covered_at (sizes_of h) pixels B seen cells) es
      long-last =
          on_read p.stands refl s.board_is
          ∙ ap (λ (q : Position). foldl (moved_by B) (q, k) es)
          (s.is ∙ start-long file h place es board cells l seen refl)
          ∙ ap (λ (c : List ℕ). foldl (moved_by B) (begun_at (sizes_of h) pixels B seen cells, c) es)
          (s.cells_is ∙ cells-long file h place es board cells l seen refl)

      pub long-answer : (foldl (moved_by d) (p, k) es).0.stands ≡ play_of (sizes_of h) pixels B es cells
      long-answer =
          ap (λ (q : Position × List ℕ). q.0.stands) long-last ∙ (plays (sizes_of h) pixels B es cells).is

      pub long-cells : (foldl (moved_by d) (p, k) es).1 ≡ cells_left (sizes_of h) pixels B es cells
      long-cells =
          ap (λ (q : Position × List ℕ). q.1) long-last ∙ (plays (sizes_of h) pixels B es cells).cells

      -- the board is left exactly where the call is refused
      unless-told : (v : Verdict) → unless_refused (answer_of v) board B ≡ B
      unless-told undecided = refl
      unless-told won = refl
      unless-told lost = refl

      unless-same : (cs : List Check) (q : Position) (v : Verdict) → q.stands ≡ Undecided
          → unless_refused (first_of q refused_at cs).stands board B
          ≡ unless_refused (first_of (answer_of v) Refused cs) board B
      unless-same cs q v e =
          first-cases 0 (λ n. n) cs
          (λ n. unless_refused (first_of q refused_at cs).stands board B
          ≡ unless_refused (first_of (answer_of v) Refused cs) board B)
          (λ none. ap (λ (r : Position). unless_refused r.stands board B) (none-holds q refused_at cs none)
          ∙ ap (λ (t : Played). unless_refused t board B) e
          ∙ sym (ap (λ (t : Played). unless_refused t board B) (none-holds (answer_of v) Refused cs none)
          ∙ unless-told v))
          (λ n f. ap (λ (r : Position). unless_refused r.stands board B) (first-of q refused_at cs n f)
          ∙ sym (ap (λ (t : Played). unless_refused t board B) (first-of (answer_of v) Refused cs n f)))

      pub long-board : d ≡ unless_refused (play_of (sizes_of h) pixels B es cells) board B
      unfolding begun_at play_of
      long-board =
          s.board_is
          ∙ ap (λ (q : Position). unless_refused q.stands board B)
          (s.is ∙ start-long file h place es board cells l seen refl)
          ∙ unless-same (play_checks h.height h.width pixels (length B) (length cells) seen.chord) _
          (last_game (sizes_of h) pixels B es cells).verdict refl
          ∙ ap
          (λ (chord : Bool). unless_refused
          (first_of (answer_of (last_game (sizes_of h) pixels B es cells).verdict) Refused
          (play_checks h.height h.width pixels (length B) (length cells) chord)) board B)
          (pressed-is es)

    -- both
    pub game-comes : (all : List Event) → es ≡ take n all
        → Comes (game h place all) (foldl (moved_by d) (p, k) es).0.stands d (foldl (moved_by d) (p, k) es).1
    unfolding game_play
    game-comes all e =
        ⊎_elim
        (λ l.
        let t = lt-ltb (length board) (h.height * h.width) l in
        record {
          answer_is = rw t (ap (λ (q : Position × List ℕ). q.0.stands) (short-last l));
          board_is = rw t (short-board l);
          cells_is = rw t (ap (λ (q : Position × List ℕ). q.1) (short-last l));
        })
        (λ l.
        let f = le-ltb (length board) (h.height * h.width) l in
        record {
          answer_is = rw (f, ← e) (long-answer l);
          board_is = rw (f, ← e) (long-board l);
          cells_is = rw (f, ← e) (long-cells l);
        })
        (lt-or_ge (length board) (h.height * h.width))

  -- A FILE
  comes-by : (R : Reading) → reading_of file ≡ R → (r : Start) (d : List ℤ) (k : List ℕ)
      → StartsBy file n board cells r d k R → (last : Position) (c : List ℕ)
      → (last, c) ≡ foldl (moved_by d) (r.position, k) (first_events n file r.cursor)
      → Comes R last.stands d c
  comes-by (game h place all) g r d k s last c e =
      let f : (last, c) ≡ foldl (moved_by d) (r.position, k) (take n all) =
      e ∙ ap (foldl (moved_by d) (r.position, k))
      (ap (first_events n file) s.0 ∙ first-take (singly file h place all g) n) in
      subst (λ (q : Position × List ℕ). Comes (game h place all) q.0.stands d q.1) (sym f)
      (game-comes h place (take n all) r.position d k s.1 all refl)
  comes-by (none m) g r d k s last c e =
      let f : ◌≡◌ {A = Position × List ℕ} (last, c) (r.position, k) =
      e ∙ row-rests d k r.position (ap (λ (q : Position). goes_on q.stands) s.0)
      (first_events n file r.cursor) in
      record {
        answer_is = ap (λ (q : Position × List ℕ). q.0.stands) f ∙ ap (λ (q : Position). q.stands) s.0;
        board_is = s.1.0;
        cells_is = ap (λ (q : Position × List ℕ). q.1) f ∙ s.1.1;
      }

  pub plays-file : (r : Start) (d : List ℤ) (k : List ℕ) {last : Position} {c : List ℕ} {a : Played}
      → StartsFile file n board cells r d k
      → (last, c) ≡ foldl (moved_by d) (r.position, k) (first_events n file r.cursor) → a ≡ last.stands
      → PlaysFile file n board cells a d c
  unfolding StartsFile file_play board_played cells_played
  plays-file r d k {last} {c} s e f =
      let w = comes-by (reading_of file) refl r d k s last c e in
      record { is = f ∙ w.answer_is; board_is = w.board_is; cells_is = w.cells_is }
