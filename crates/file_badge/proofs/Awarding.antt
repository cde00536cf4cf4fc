-- The badge of a file is what the call comes to on its events. Assumes nothing.
--     badge-game, badge-none    of a file that is read, and of one that is not
--     host-unknown, host-known    for hosts
use Prim.Native.Nat.{ℕ, ◌*◌, ◌≤◌, ◌<◌}
use mathlib.Core.Path.{◌≡◌, refl, sym, ap, subst, ◌∙◌}
use mathlib.Core.Logic.{⊎_elim}
use mathlib.Core.Bool.{not}
use mathlib.Core.List.{List, foldl}
use lib.IntN.{ℤ}
use lib.ListN.{length, take}
use lib.Seq.{take-length}
use borrow.Author.Tests.{lt-ltb, le-ltb}
use Rattle.text.specs.declared.Place.{Place}
use Rattle.board.proofs.Places.{lt-or_ge}
use Rattle.flood.specs.Spread.{some}
use Rattle.game.specs.declared.Event.{Event}
use Rattle.game.specs.declared.Header.{Header}
use Rattle.buttons.specs.declared.Buttons.{Buttons}
use Rattle.buttons.specs.Pressing.{none_down, pressed}
use Rattle.evf_events.specs.Events.{first_events}
use Rattle.evf_video.specs.declared.Judged.{Judged}
use Rattle.evf_video.specs.declared.Outcome.TheVariants.{Read as IsRead, Refused as NotRead}
use Rattle.evf_video.specs.Reading.{reading_of}
use Rattle.evf_video.specs.Judging.{start_of, judged_of}
use Rattle.evf_video.proofs.Judging.{is_game, is_none}
use Rattle.evf_video.proofs.Singly.{singly}
use Rattle.moves.specs.declared.Played.{Played}
use Rattle.moves.specs.declared.Played.TheVariants.{Undecided, Won, Lost, Refused as NotPlayed}
use Rattle.moves.specs.declared.Position.{Position}
use Rattle.moves.specs.Moves.{goes_on, moved_by}
use Rattle.moves.proofs.Resting.{row-rests}
use Rattle.playing.specs.Play.{sizes_of}
use Rattle.playing.specs.Beginning.{begun_at}
use Rattle.file_play.specs.FilePlay.{board_read, unless_refused}
use Rattle.file_play.specs.Starting.{StartsGame}
use Rattle.file_play.proofs.Files.{first-take, short-last, game-comes}
use Rattle.file_play.proofs.Started.{start-long, cells-long}
use Rattle.badge_rules.specs.declared.Rule.{Rule}
use Rattle.badge_rules.specs.declared.Rule.TheVariants.{Older, Newer}
use Rattle.badge_rules.specs.declared.Wish.{Wish}
use Rattle.badge_rules.specs.declared.Wish.TheVariants.{Under}
use Rattle.badge_rules.specs.declared.Award.{Award}
use Rattle.badge_rules.specs.declared.Award.TheVariants.{Refused}
use Rattle.badge_rules.specs.Rules.{rule_of}
use Rattle.badge_rules.specs.Steps.{no_board, award_by}
use Rattle.badge.specs.declared.Judging.{Judging}
use Rattle.badge.specs.Badge.{older_earned, award_of, award_under}
use Rattle.badge.specs.Judging.{older_judging, newer_judging, begun_judging, begun_cells, judged_by, award_from}
use Rattle.badge.proofs.Passing.{older-pass, newer-pass, entrySpoiledAt}
use Rattle.badge.proofs.Through.{awards}
use Rattle.file_badge.specs.declared.FileBadge.{FileBadge}
use Rattle.file_badge.specs.declared.FileBadge.TheVariants.{Read, Unread}
use Rattle.file_badge.specs.FileBadge.{game_badge, board_under, entries_under, file_badge, board_judged}
use Rattle.file_badge.specs.FileBadge.{cells_judged, BadgesFile, wish_of, host_number, HostBadges}
use Rattle.file_badge.specs.Starting.{StartsJudging}

-- a file, a lent board and lent cells; a game of the file and its events
module _ (file : List ℕ) (board : List ℤ) (cells : List ℕ) (h : Header) (place : Place) (es : List Event) where
  abbrev B : List ℤ
  B = board_read file h place board

  abbrev pixels : ℕ
  pixels = h.cell_pixel_size

  abbrev seen : Buttons
  seen = foldl pressed none_down es

  -- what the judgement of all events comes to, by the definition
  pub record Comes (rule : Rule) (last : Judging) (d : List ℤ) (c : List ℕ) : Type 0 where
    pub award-is : award_from last ≡ game_badge file board cells rule h place es
    pub board_is : d ≡ board_under file board cells rule h place es
    pub cells_is : c ≡ entries_under file board cells rule h place es

  -- THE OLDER RULE
  older-comes : (d : List ℤ) → d ≡ board
      → Comes Older (foldl (judged_by d) (older_judging h.nf, cells) es).0 d
      (foldl (judged_by d) (older_judging h.nf, cells) es).1
  unfolding older_earned
  older-comes d e =
      let f = older-pass d es h.nf no_board cells in
      record {
        award-is = ap (λ (s : Judging × List ℕ). award_from s.0) f;
        board_is = e;
        cells_is = ap (λ (s : Judging × List ℕ). s.1) f;
      }

  -- THE NEWER RULE, from what the play began with
  module _ (p : Position) (d : List ℤ) (k : List ℕ) (s : StartsGame file h place es board cells p d k) where
    -- on any board, from there
    abbrev last : List ℤ → Judging × List ℕ
    last x = foldl (judged_by x) (newer_judging p h.nf, k) es

    last-award : (x : List ℤ) → award_from (last x).0
        ≡ award_by (foldl (moved_by x) (p, k) es).0.stands
        (not (some (entrySpoiledAt x es h.nf (p, k)) (length es))) h.nf
    last-award x = ap (λ (q : Judging × List ℕ). award_from q.0) (newer-pass x es h.nf (p, k))

    refused-award : (x : List ℤ) (m : ℕ) → p.stands ≡ NotPlayed m → award_from (last x).0 ≡ Refused m
    refused-award x m e =
        last-award x
        ∙ ap
        (λ (t : Played). award_by t (not (some (entrySpoiledAt x es h.nf (p, k)) (length es))) h.nf)
        (ap (λ (q : Position × List ℕ). q.0.stands) (row-rests x k p (ap goes_on e) es) ∙ e)

    -- a refused game has its refusal on any board, and else the lent board is the one read
    on_read : (t : Played) → p.stands ≡ t → d ≡ unless_refused t board B
        → award_from (last d).0 ≡ award_from (last B).0
    on_read Undecided e f = ap (λ (x : List ℤ). award_from (last x).0) f
    on_read Won e f = ap (λ (x : List ℤ). award_from (last x).0) f
    on_read Lost e f = ap (λ (x : List ℤ). award_from (last x).0) f
    on_read (NotPlayed m) e f = refused-award d m e ∙ sym (refused-award B m e)

    module _ (l : h.height * h.width ≤ length board) where
      long-award : award_from (last d).0 ≡ award_under h B es cells Newer
      unfolding begun_judging begun_cells award_of
      long-award =
          on_read p.stands refl s.board_is
          ∙ ap (λ (q : Position). award_from (foldl (judged_by B) (newer_judging q h.nf, k) es).0)
          (s.is ∙ start-long file h place es board cells l seen refl)
          ∙ ap
          (λ (c : List ℕ). award_from (foldl (judged_by B)
          (newer_judging (begun_at (sizes_of h) pixels B seen cells) h.nf, c) es).0)
          (s.cells_is ∙ cells-long file h place es board cells l seen refl)
          ∙ (awards h B es cells (Under Newer)).is

    newer-award : award_from (last d).0 ≡ game_badge file board cells Newer h place es
    newer-award =
        ⊎_elim
        (λ l. rw (lt-ltb (length board) (h.height * h.width) l)
        (last-award d
        ∙ ap
        (λ (t : Played). award_by t (not (some (entrySpoiledAt d es h.nf (p, k)) (length es))) h.nf)
        (ap (λ (q : Position × List ℕ). q.0.stands)
        (short-last file (length es) board cells h place es p d k s l))))
        (λ l. rw (le-ltb (length board) (h.height * h.width) l) (long-award l))
        (lt-or_ge (length board) (h.height * h.width))

    newer-comes : Comes Newer (last d).0 d (last d).1
    newer-comes =
        let w = game-comes file (length es) board cells h place es p d k s es (sym (take-length es)) in
        record {
          award-is = newer-award;
          board_is = w.board_is;
          cells_is = ap (λ (q : Judging × List ℕ). q.1) (newer-pass d es h.nf (p, k)) ∙ w.cells_is;
        }

  -- BOTH
  pub comes-under : (rule : Rule) (r : Judging) (d : List ℤ) (k : List ℕ)
      → StartsJudging rule file h place es board cells r d k
      → Comes rule (foldl (judged_by d) (r, k) es).0 d (foldl (judged_by d) (r, k) es).1
  comes-under Older r d k s = rw (s.0, s.1.1) (older-comes d s.1.0)
  comes-under Newer r d k s =
      subst (λ (q : Judging). Comes Newer (foldl (judged_by d) (q, k) es).0 d
      (foldl (judged_by d) (q, k) es).1) (sym s.0)
      (newer-comes r.position d k s.1)

-- A FILE
module _ (wish : Wish) (file : List ℕ) (board : List ℤ) (cells : List ℕ) (j : Judged) (e : j ≡ judged_of file)
  where
    pub badge-game : {rule : Rule} (r : Judging) {last : Judging} {d : List ℤ} (k : List ℕ) {c : List ℕ}
        {a : Award} → j.outcome ≡ IsRead → rule ≡ rule_of wish j.header.version
        → StartsJudging rule file j.header j.board (first_events j.events file j.cursor) board cells
        r d k
        → (last, c) ≡ foldl (judged_by d) (r, k) (first_events j.events file j.cursor)
        → a ≡ award_from last → BadgesFile wish file board cells (Read rule a) d c
    unfolding judged_of file_badge board_judged cells_judged
    badge-game {rule} r {last} {d} k {c} {a} o q s f t =
        let g = is_game (start_of file) (reading_of file) j e o in
        let all : first_events j.events file j.cursor ≡ g.events =
        ap (first_events j.events file) g.cursor_is
        ∙ first-take (singly file j.header j.board g.events g.is) j.events
        ∙ ap (λ (n : ℕ). take n g.events) g.many ∙ take-length g.events in
        let w = comes-under file board cells j.header j.board g.events rule r d k
        (subst (λ (es : List Event). StartsJudging rule file j.header j.board es board cells r d k) all
        s) in
        let ends : (last, c) ≡ foldl (judged_by d) (r, k) g.events =
        f ∙ ap (foldl (judged_by d) (r, k)) all in
        record {
          is = rw (g.is, ← q)
              (ap (Read rule) (t ∙ ap (λ (x : Judging × List ℕ). award_from x.0) ends ∙ w.award-is));
          board_is = rw (g.is, ← q) w.board_is;
          cells_is = rw (g.is, ← q) (ap (λ (x : Judging × List ℕ). x.1) ends ∙ w.cells_is);
        }

    pub badge-none : (m : ℕ) → j.outcome ≡ NotRead m → BadgesFile wish file board cells (Unread m) board cells
    unfolding judged_of file_badge board_judged cells_judged
    badge-none m o =
        let n = is_none (start_of file) (reading_of file) j m e o in
        record { is = rw n; board_is = rw n; cells_is = rw n }

-- FOR HOSTS
module _ (file : List ℕ) (wish : ℕ) (board : List ℤ) (cells : List ℕ) where
  pub host-unknown : 2 < wish → HostBadges file wish board cells 255 board cells
  host-unknown l =
      record { is = rw (lt-ltb 2 wish l); board_is = rw (lt-ltb 2 wish l); cells_is = rw (lt-ltb 2 wish l) }

  pub host-known : {w : Wish} {r : FileBadge} {n : ℕ} {d : List ℤ} {c : List ℕ} → wish ≤ 2 → w ≡ wish_of wish
      → BadgesFile w file board cells r d c → n ≡ host_number r → HostBadges file wish board cells n d c
  host-known l e b f =
      record {
        is = rw (le-ltb 2 wish l, ← e) (f ∙ ap host_number b.is);
        board_is = rw (le-ltb 2 wish l, ← e) b.board_is;
        cells_is = rw (le-ltb 2 wish l, ← e) b.cells_is;
      }
