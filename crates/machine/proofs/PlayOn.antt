-- The play by steps over lent cells is the machine's: `play-on`. Assumes nothing.
use mathlib.Core.Path.{◌≡◌, refl, sym, subst}
use mathlib.Core.Logic.{⊎_elim}
use mathlib.Core.Bool.{Bool, true, false, cond, ◌&&◌, true≢false, false≢true}
use mathlib.Core.List.{List, []}
use Prim.Native.Nat.{ℕ, ◌*◌, ◌/◌, ◌<◌, ◌≤◌}
use native.Mathlib.Nat.{le_refl}
use native.Mathlib.Omega.{arith}
use lib.Dec.{ltb}
use lib.IntN.{ℤ}
use lib.ListN.{length}
use borrow.Author.Tests.{ltb-true, ne_eqb}
use Rattle.board.specs.Geometry.{mine_at}
use Rattle.flood.specs.Spread.{size}
use Rattle.flood.specs.Flood.{taken, uncovered as uncoveredAt}
use Rattle.flood.proofs.Sets.{and_cases, true_or_false}
use Rattle.flood.proofs.Uncovered.{taken-off, taken_not, uncovers-nothing}
use Rattle.game.specs.declared.Event.{Event}
use Rattle.game.specs.declared.Event.TheVariants.{Mouse, State}
use Rattle.game.specs.declared.MouseKind.TheVariants.{Mv, Lc, Lr, Rc, Rr, Mc, Mr, Pf, Cc, L, R, M, Ub}
use Rattle.moves.specs.declared.Act.TheVariants.{Uncover, Flag}
use Rattle.moves.specs.declared.Position.{Position}
use Rattle.machine.specs.Machine.{Cell, covered, flagged, uncovered, Verdict, undecided, won, lost, Game}
use Rattle.machine.specs.Machine.{is_covered, cell_at}
use Rattle.machine.specs.Machine.{marked, released, is_undecided, move}
use Rattle.moves.specs.Clicks.{is_on, cell_under}
use Rattle.machine.specs.Answers.{entry_of, answer_of}
use Rattle.moves.specs.Moves.{under_of, clicked_cell, flagged_at, judged_from}
use Rattle.moves.specs.Moves.{position_acted, cells_acted, position_after, cells_after}
use Rattle.moves.proofs.Targets.{under_less}
use Rattle.moves.proofs.Judging.{judged-none}
use Rattle.moves.proofs.Steps.{flagged-off}
use Rattle.machine.proofs.Standing.{at, Stands, mark_on}
use Rattle.machine.proofs.Uncovering.{open-on}

module _ (mine : ℕ → Bool) (h w pixels : ℕ) (before : List ℕ) where
  -- LR ON ANY CELL

  -- where nothing is taken, all stays
  untouched : (g : Game) (p : Position) (cells : List ℕ) (k : ℕ) (m : Bool) → taken mine h w cells k ≡ []
      → Stands mine h w pixels before g p cells
      → Stands mine h w pixels before g (judged_from p (size (taken mine h w cells k)) m)
      (uncoveredAt mine h w cells k)
  untouched g p cells k m e s =
      let u = uncovers-nothing mine h w cells k e in
      rw (judged-none p (size (taken mine h w cells k)) m (sym u.many), ← u.is) s

  not_covered : (c : Cell) (n : ℕ) → n ≡ entry_of c → is_covered c ≡ false → n ≡ 0 → ⊥
  not_covered covered n e f z = true≢false f
  not_covered flagged n e f z = omega (arith, e, z)
  not_covered uncovered n e f z = omega (arith, e, z)

  is-covered : (c : Cell) (n : ℕ) → n ≡ entry_of c → is_covered c ≡ true → n ≡ 0
  is-covered covered n e t = e
  is-covered flagged n e t = absurd (false≢true t)
  is-covered uncovered n e t = absurd (false≢true t)

  module _ (room : h * w ≤ length before) (g : Game) (p : Position) (cells : List ℕ)
      (s : Stands mine h w pixels before g p cells) where
    release-on : g.verdict ≡ undecided → (k : ℕ) → k < h * w
        → Stands mine h w pixels before (released mine h w g k)
        (judged_from p (size (taken mine h w cells k)) (mine k))
        (uncoveredAt mine h w cells k)
    release-on u k l =
        ⊎_elim
        (λ t. rw t
        (open-on mine h w pixels before room g p cells s u k l
        (is-covered (cell_at g.cells k) _ (s.on k l) t)))
        (λ f. rw f
        (untouched g p cells k (mine k)
        (taken_not mine h w cells k (let m = s.long in omega arith) l
        (not_covered (cell_at g.cells k) _ (s.on k l) f)) s))
        (true_or_false (is_covered (cell_at g.cells k)))

    release-off : (k : ℕ) (m : Bool) → h * w ≤ k
        → Stands mine h w pixels before g (judged_from p (size (taken mine h w cells k)) m)
        (uncoveredAt mine h w cells k)
    release-off k m l =
        untouched g p cells k m (taken-off mine h w cells k (let m = s.long in omega arith) l) s

    mark-off : (k : ℕ) → h * w ≤ k → Stands mine h w pixels before g p (flagged_at (h * w) cells k)
    mark-off k l = rw (flagged-off (h * w) cells k l) s

  -- WHERE A CLICK FALLS

  module _ (some : pixels ≡ 0 → ⊥) (x y : ℕ) where
    abbrev acts : Verdict → Bool
    acts v = is_undecided v && is_on h w pixels x y

    pub clicked-is : (left : ℕ) (v : Verdict) → clicked_cell (at mine h w pixels before left (answer_of v)) x y
        ≡ cond (acts v) (cell_under h w pixels x y) (h * w)
    unfolding clicked_cell under_of
    clicked-is left undecided = rw (ne_eqb pixels 0 some)
    clicked-is left won = refl
    clicked-is left lost = refl

    pub on-board : is_on h w pixels x y ≡ true → cell_under h w pixels x y < h * w
    unfolding is_on cell_under
    on-board e =
        let r = and_cases (ltb (y / pixels) h) (ltb (x / pixels) w) e in
        under_less h w (y / pixels) (x / pixels) (ltb-true (y / pixels) h r.0)
        (ltb-true (x / pixels) w r.1)

    goes : (v : Verdict) → is_undecided v ≡ true → v ≡ undecided
    goes undecided e = refl
    goes won e = absurd (false≢true e)
    goes lost e = absurd (false≢true e)

-- ONE EVENT
module _ (board : List ℤ) (h w pixels : ℕ) (before : List ℕ) (room : h * w ≤ length before)
    (some : pixels ≡ 0 → ⊥) where
  abbrev pub Plays : Game → Position → List ℕ → Type 0
  Plays = Stands (mine_at board) h w pixels before

  same-both : {A : Type 0} (b : Bool) (a : A) → cond b a a ≡ a
  same-both true a = refl
  same-both false a = refl

  module _ (g : Game) (cells : List ℕ) (left : ℕ)
      (s : Plays g (at (mine_at board) h w pixels before left (answer_of g.verdict)) cells) where
    abbrev q : Position
    q = at (mine_at board) h w pixels before left (answer_of g.verdict)

    module _ (x y : ℕ) where
      abbrev k : ℕ
      k = cell_under h w pixels x y

      abbrev b : Bool
      b = is_undecided g.verdict && is_on h w pixels x y

      falls : clicked_cell q x y ≡ cond b k (h * w)
      falls = clicked-is (mine_at board) h w pixels before some x y left g.verdict

      uncovers-on : Plays (cond b (released (mine_at board) h w g k) g)
          (position_acted board cells q Uncover x y) (cells_acted board cells q Uncover x y)
      uncovers-on =
          subst
          (λ (i : ℕ). Plays (cond b (released (mine_at board) h w g k) g)
          (judged_from q (size (taken (mine_at board) h w cells i)) (mine_at board i))
          (uncoveredAt (mine_at board) h w cells i))
          (sym falls)
          ((elim b as (λ t. b ≡ t
          → Plays (cond t (released (mine_at board) h w g k) g)
          (judged_from q (size (taken (mine_at board) h w cells (cond t k (h * w))))
          (mine_at board (cond t k (h * w))))
          (uncoveredAt (mine_at board) h w cells (cond t k (h * w)))) [
            | true ↦ λ e.
                let r = and_cases (is_undecided g.verdict) (is_on h w pixels x y) e in
                release-on (mine_at board) h w pixels before room g q cells s
                (goes (mine_at board) h w pixels before some x y g.verdict r.0) k
                (on-board (mine_at board) h w pixels before some x y r.1)
            | false ↦ λ e.
                release-off (mine_at board) h w pixels before room g q cells s (h * w) (mine_at board (h * w))
                (le_refl (h * w))
          ]) refl)

      flags-on : Plays (cond b (marked g k) g) q (cells_acted board cells q Flag x y)
      flags-on =
          subst (λ (i : ℕ). Plays (cond b (marked g k) g) q (flagged_at (h * w) cells i)) (sym falls)
          ((elim b as (λ t. b ≡ t
          → Plays (cond t (marked g k) g) q (flagged_at (h * w) cells (cond t k (h * w)))) [
            | true ↦ λ e.
                let r = and_cases (is_undecided g.verdict) (is_on h w pixels x y) e in
                mark_on (mine_at board) h w pixels before room g q cells s k
                (on-board (mine_at board) h w pixels before some x y r.1)
            | false ↦ λ e.
                mark-off (mine_at board) h w pixels before room g q cells s (h * w) (le_refl (h * w))
          ]) refl)

      stays : Plays (cond b g g) q cells
      stays = subst (λ (f : Game). Plays f q cells) (sym (same-both b g)) s

    event-on : (e : Event)
        → Plays (move (mine_at board) h w pixels g e) (position_after board cells q e)
        (cells_after board cells q e)
    event-on (Mouse t Lr x y) = uncovers-on x y
    event-on (Mouse t Rc x y) = flags-on x y
    event-on (Mouse t Pf x y) = flags-on x y
    event-on (Mouse t Mv x y) = stays x y
    event-on (Mouse t Lc x y) = stays x y
    event-on (Mouse t Rr x y) = stays x y
    event-on (Mouse t Mc x y) = stays x y
    event-on (Mouse t Mr x y) = stays x y
    event-on (Mouse t Cc x y) = stays x y
    event-on (Mouse t L x y) = stays x y
    event-on (Mouse t R x y) = stays x y
    event-on (Mouse t M x y) = stays x y
    event-on (Mouse t Ub x y) = stays x y
    event-on (State t v) = s

  -- position and lent cells stay the machine's with each event
  pub play-on : (g : Game) (p : Position) (cells : List ℕ) → Plays g p cells → (e : Event)
      → Plays (move (mine_at board) h w pixels g e) (position_after board cells p e)
      (cells_after board cells p e)
  play-on g p cells s e =
      subst
      (λ (r : Position). Plays (move (mine_at board) h w pixels g e) (position_after board cells r e)
      (cells_after board cells r e)) (sym s.is)
      (event-on g cells s.left (subst (λ (r : Position). Plays g r cells) s.is s) e)
