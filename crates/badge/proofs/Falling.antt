-- What an event leaves of the badge. Assumes nothing.
--     spoils-same    an event spoils the badge by the lent cells just where it does so in the machine's game
use mathlib.Core.Path.{◌≡◌, refl, ap}
use mathlib.Core.Logic.{⊎_elim}
use mathlib.Core.Bool.{Bool, true, false, not, ◌&&◌, true≢false}
use mathlib.Core.List.{List}
use Prim.Native.Nat.{ℕ, ◌*◌, ◌≤◌}
use native.Mathlib.Nat.{le_refl}
use native.Mathlib.Omega.{arith}
use lib.Dec.{eqb}
use lib.IntN.{ℤ}
use lib.ListN.{length}
use borrow.Author.Tests.{lt-ltb, le-ltb}
use Rattle.board.specs.Geometry.{mine_at}
use Rattle.flood.proofs.Sets.{and_cases, true_or_false}
use Rattle.game.specs.declared.Event.{Event}
use Rattle.game.specs.declared.Event.TheVariants.{Mouse, State}
use Rattle.moves.specs.declared.Position.{Position}
use Rattle.moves.specs.Clicks.{is_on, cell_under}
use Rattle.machine.specs.Machine.{Cell, covered, flagged, uncovered, Game, is_uncovered, is_undecided, cell_at}
use Rattle.machine.specs.Answers.{entry_of}
use Rattle.machine.proofs.PlayOn.{Plays, clicked-is, on-board}
use Rattle.badge.specs.Badge.{spoils}
use Rattle.badge_rules.specs.Steps.{is_rc, falls_covered}

not-uncovered : (c : Cell) (n : ℕ) → n ≡ entry_of c → not (eqb n (entry_of uncovered)) ≡ not (is_uncovered c)
not-uncovered covered n e = rw e
not-uncovered flagged n e = rw e
not-uncovered uncovered n e = rw e

and_off : (u o m : Bool) → (u && o) ≡ false → false ≡ (u && (o && m))
and_off true true m e = absurd (true≢false e)
and_off true false m e = refl
and_off false o m e = refl

-- BY THE LENT CELLS

-- an event spoils the badge by a position and the lent cells
abbrev pub entry_spoils : Position × List ℕ → Event → Bool
entry_spoils q (Mouse t kind x y) = is_rc kind && falls_covered q.1 q.0 x y
entry_spoils q (State t s) = false

-- IN THE MACHINE'S GAME

module _ (board : List ℤ) (h w pixels : ℕ) (before : List ℕ) (room : h * w ≤ length before)
    (some : pixels ≡ 0 → ⊥) (g : Game) (p : Position) (cells : List ℕ)
    (s : Plays board h w pixels before room some g p cells) where
  module _ (x y : ℕ) where
    abbrev k : ℕ
    k = cell_under h w pixels x y

    abbrev acts : Bool
    acts = is_undecided g.verdict && is_on h w pixels x y

    on : acts ≡ true → falls_covered cells p x y
        ≡ (is_undecided g.verdict && (is_on h w pixels x y && not (is_uncovered (cell_at g.cells k))))
    unfolding falls_covered
    on e =
        let r = and_cases (is_undecided g.verdict) (is_on h w pixels x y) e in
        let l = on-board (mine_at board) h w pixels before some x y r.1 in
        let m = s.long in
        rw (
          s.is,
          clicked-is (mine_at board) h w pixels before some x y s.left g.verdict,
          r.0,
          r.1,
          lt-ltb k (h * w) l,
          lt-ltb k (length cells) (omega arith),
        ) (not-uncovered (cell_at g.cells k) _ (s.on k l))

    off : acts ≡ false → falls_covered cells p x y
        ≡ (is_undecided g.verdict && (is_on h w pixels x y && not (is_uncovered (cell_at g.cells k))))
    unfolding falls_covered
    off e =
        rw (
          s.is,
          clicked-is (mine_at board) h w pixels before some x y s.left g.verdict,
          e,
          le-ltb (h * w) (h * w) (le_refl (h * w)),
        )
        (and_off (is_undecided g.verdict) (is_on h w pixels x y) _ e)

  pub spoils-same : (e : Event) → entry_spoils (p, cells) e ≡ spoils (mine_at board) h w pixels g e
  spoils-same (Mouse t kind x y) =
      ap (λ (b : Bool). is_rc kind && b) (⊎_elim (on x y) (off x y) (true_or_false (acts x y)))
  spoils-same (State t v) = refl
