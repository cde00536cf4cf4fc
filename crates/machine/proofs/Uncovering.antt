-- What an lr on a covered cell makes of position and lent cells: `open-on`. Assumes nothing.
use mathlib.Core.Path.{◌≡◌, refl, sym, ◌∙◌, ap, subst}
use mathlib.Core.Logic.{⊎_elim}
use mathlib.Core.Bool.{Bool, true, false, cond, not, ◌&&◌, ◌||◌, true≢false}
use mathlib.Core.List.{List}
use Prim.Native.Nat.{ℕ, ◌+◌, ◌-◌, ◌*◌, ◌<◌, ◌≤◌}
use native.Mathlib.Omega.{arith}
use lib.ListN.{length, get_or}
use Rattle.lists.specs.Lists.{each}
use Rattle.lists.proofs.Each.{length-each, getD-each, each_same}
use Rattle.board.specs.Geometry.{neighbours}
use Rattle.board.proofs.Places.{lt-or_ge}
use Rattle.flood.specs.Spread.{mem, some, size}
use Rattle.flood.specs.Flood.{is_zero, covered as covered_at, taken, uncovered as uncoveredAt}
use Rattle.flood.proofs.Sets.{or_left, and_both, true_or_false, some_in, some_out, each_get_d}
use Rattle.flood.proofs.Sets.{size_both}
use Rattle.flood.proofs.Settle.{reached-length}
use Rattle.flood.proofs.Uncovered.{taken_is, length-uncovered, uncovered-past}
use Rattle.flood.proofs.Taken.{Takes, taken-itself, taken-covered, taken-safe}
use Rattle.moves.specs.declared.Played.TheVariants.{Undecided, Won, Lost}
use Rattle.moves.specs.declared.Position.{Position}
use Rattle.machine.specs.Machine.{Cell, covered, flagged, uncovered, Verdict, undecided, won, lost, Game}
use Rattle.machine.specs.Machine.{is_uncovered, cell_at, opened, uncovering, hit, to_do}
use Rattle.machine.specs.Machine.{judged}
use Rattle.machine.specs.Answers.{entry_of, answer_of}
use Rattle.moves.specs.Moves.{standing, judged_from}
use Rattle.moves.proofs.Judging.{judged-lost, judged-won, judged-on}
use Rattle.machine.proofs.Counting.{size_none, some-none, some-some}
use Rattle.machine.proofs.Opening.{opened-taken}
use Rattle.machine.proofs.Standing.{at, Stands}

module _ (mine : ℕ → Bool) (h w pixels : ℕ) (before : List ℕ) where
  lost-not : lost ≡ undecided → ⊥
  lost-not e = let z : ◌≡◌ {A = ℕ} 0 1 = cc in absurd (omega arith)

  won-not : won ≡ undecided → ⊥
  won-not e = let z : ◌≡◌ {A = ℕ} 0 1 = cc in absurd (omega arith)

  -- LR ON A COVERED CELL

  sight-cases : (t : Bool) (c : Cell) (n : ℕ) → n ≡ entry_of c → cond t 2 n ≡ entry_of (cond t uncovered c)
  sight-cases true c n e = refl
  sight-cases false c n e = e

  module _ (room : h * w ≤ length before) (g : Game) (p : Position) (cells : List ℕ)
      (s : Stands mine h w pixels before g p cells)
      (u : g.verdict ≡ undecided) (k : ℕ) (l : k < h * w) (free : get_or cells k 0 ≡ 0) where
    abbrev T : List Bool
    T = taken mine h w cells k

    abbrev then : List Cell
    then = uncovering mine h w g.cells k

    abbrev was : ℕ → Cell
    was j = cell_at g.cells j

    enough : h * w ≤ length cells
    enough = let m = s.long in omega arith

    takes : Takes mine h w cells k
    takes = record { long = enough; within = l; free = free }

    is_open : opened mine h w g.cells k ≡ T
    is_open = opened-taken mine h w cells g.cells s.on k enough l free

    then_at : (j : ℕ) → j < h * w → cell_at then j ≡ cond (mem T j) uncovered (was j)
    unfolding uncovering
    then_at j b =
        getD-each (h * w) j (λ i. cond (mem (opened mine h w g.cells k) i) uncovered (was i)) covered b
        ∙ ap (λ (o : List Bool). cond (mem o j) uncovered (was j)) is_open

    then-in : (j : ℕ) → j < h * w → mem T j ≡ true → cell_at then j ≡ uncovered
    then-in j b t = then_at j b ∙ ap (λ (q : Bool). cond q uncovered (was j)) t

    then-out : (j : ℕ) → j < h * w → mem T j ≡ false → cell_at then j ≡ was j
    then-out j b t = then_at j b ∙ ap (λ (q : Bool). cond q uncovered (was j)) t

    then-long : length then ≡ h * w
    unfolding uncovering
    then-long =
        length-each (h * w) (λ j. cond (mem (opened mine h w g.cells k) j) uncovered (cell_at g.cells j))

    on_then : (j : ℕ) → j < h * w → get_or (uncoveredAt mine h w cells k) j 0 ≡ entry_of (cell_at then j)
    unfolding uncoveredAt
    on_then j b =
        getD-each (length cells) j (λ i. cond (mem T i) 2 (get_or cells i 0)) 0
        (let m = enough in omega arith)
        ∙ sight-cases (mem T j) (was j) (get_or cells j 0) (s.on j b)
        ∙ sym (ap entry_of (then_at j b))

    covered-entry : (c : Cell) → entry_of c ≡ 0 → is_uncovered c ≡ false
    covered-entry covered e = refl
    covered-entry flagged e = refl
    covered-entry uncovered e = absurd (omega (arith, e))

    -- a cell that is taken was to do, unless it is the mine that was clicked
    was_covered : (j : ℕ) → j < h * w → mem T j ≡ true → is_uncovered (was j) ≡ false
    was_covered j b t =
        covered-entry (was j) (sym (s.on j b) ∙ taken-covered mine h w cells k j t)

    T-long : length T ≡ h * w
    T-long = ap length (taken_is mine h w cells k enough l free)
        ∙ reached-length (h * w) (neighbours h w) (is_zero mine h w) (covered_at cells) k l

    T-each : each (h * w) (mem T) ≡ T
    T-each = ap (λ (n : ℕ). each n (mem T)) (sym T-long) ∙ each_get_d T false

    took-some : size T ≡ 0 → ⊥
    took-some e =
        true≢false
        (sym (taken-itself mine h w cells k takes) ∙ size_none (h * w) (mem T) (ap size T-each ∙ e) k l)

    -- A MINE
    lost-then : mine k ≡ true → judged mine h w then ≡ lost
    unfolding judged
    lost-then m =
        rw (some_in (hit mine h w then) (h * w) k l
        (and_both (mine k) (is_uncovered (cell_at then k)) m
        (ap is_uncovered (then-in k l (taken-itself mine h w cells k takes)))))

    -- NO MINE
    module _ (m : mine k ≡ false) where
      -- so none is taken
      no-mine : (j : ℕ) → mem T j ≡ true → mine j ≡ false
      no-mine j t =
          ⊎_elim
          (λ q.
          let e = taken-safe mine h w cells k j t q in
          absurd (true≢false (sym (subst (λ (i : ℕ). mine i ≡ true) e q) ∙ m)))
          (λ q. q)
          (true_or_false (mine j))

      to-do : (j : ℕ) → j < h * w → (mem T j || to_do mine h w then j) ≡ to_do mine h w g.cells j
      to-do j b =
          ⊎_elim
          (λ t. or_left (mem T j) (to_do mine h w then j) t
          ∙ sym (and_both (not (mine j)) (not (is_uncovered (was j))) (ap not (no-mine j t))
          (ap not (was_covered j b t))))
          (λ f. rw f (ap (λ (c : Cell). not (mine j) && not (is_uncovered c)) (then-out j b f)))
          (true_or_false (mem T j))

      apart : (j : ℕ) → j < h * w → mem T j ≡ true → to_do mine h w then j ≡ false
      apart j b t = rw (then-in j b t, no-mine j t)

      -- what was to do is what was taken and what is to do now
      left_is : size (each (h * w) (to_do mine h w g.cells))
          ≡ size T + size (each (h * w) (to_do mine h w then))
      left_is =
          sym
          (ap size
          (each_same (h * w) (λ j. mem T j || to_do mine h w then j) (to_do mine h w g.cells) to-do))
          ∙ size_both (h * w) (mem T) (to_do mine h w then) apart
          ∙ ap (λ (n : ℕ). n + size (each (h * w) (to_do mine h w then))) (ap size T-each)

      safe-then : (j : ℕ) → j < h * w → hit mine h w then j ≡ false
      safe-then j b =
          ⊎_elim
          (λ t. rw (no-mine j t))
          (λ f. ap (λ (c : Cell). mine j && is_uncovered c) (then-out j b f) ∙ s.safe u j b)
          (true_or_false (mem T j))

      none-hit : some (hit mine h w then) (h * w) ≡ false
      none-hit =
          ⊎_elim
          (λ t. let r = some_out (hit mine h w then) (h * w) t in
          absurd (true≢false (sym r.2 ∙ safe-then r.0 r.1)))
          (λ f. f)
          (true_or_false (some (hit mine h w then) (h * w)))

      won-then : size (each (h * w) (to_do mine h w then)) ≡ 0 → judged mine h w then ≡ won
      unfolding judged
      won-then e = rw (none-hit, some-none (h * w) (to_do mine h w then) e)

      on-with : 0 < size (each (h * w) (to_do mine h w then)) → judged mine h w then ≡ undecided
      unfolding judged
      on-with e = rw (none-hit, some-some (h * w) (to_do mine h w then) e)

    -- the lent cells then, and a position that stands as the verdict says
    stands-then : (left : ℕ) (r : Position)
        → r ≡ at mine h w pixels before left (answer_of (judged mine h w then))
        → (judged mine h w then ≡ undecided → (j : ℕ) → j < h * w → hit mine h w then j ≡ false)
        → (judged mine h w then ≡ undecided → left ≡ size (each (h * w) (to_do mine h w then)))
        → Stands mine h w pixels before (record { cells = then; verdict = judged mine h w then }) r
        (uncoveredAt mine h w cells k)
    stands-then left r e f c = record {
      left = left;
      is = e;
      many = then-long;
      long = length-uncovered mine h w cells k ∙ s.long;
      on = on_then;
      past = uncovered-past mine h w cells k ∙ s.past;
      safe = f;
      count = c;
    }

    at_left : p ≡ at mine h w pixels before s.left Undecided
    at_left = s.is ∙ ap (λ (v : Verdict). at mine h w pixels before s.left (answer_of v)) u

    pub open-on : Stands mine h w pixels before (record { cells = then; verdict = judged mine h w then })
        (judged_from p (size T) (mine k)) (uncoveredAt mine h w cells k)
    open-on =
        ⊎_elim
        (λ m. stands-then s.left (judged_from p (size T) (mine k))
        (judged-lost p (size T) (mine k) took-some m
        ∙ ap (λ (q : Position). standing q q.left Lost) at_left
        ∙ ap (λ (v : Verdict). at mine h w pixels before s.left (answer_of v)) (sym (lost-then m)))
        (λ v. absurd (lost-not (sym (lost-then m) ∙ v))) (λ v. absurd (lost-not (sym (lost-then m) ∙ v))))
        (λ m.
        let e : s.left ≡ size T + size (each (h * w) (to_do mine h w then)) = s.count u ∙ left_is m in
        let f : p.left ≡ s.left = ap (λ (q : Position). q.left) at_left in
        ⊎_elim
        (λ b. stands-then (s.left - size T) (judged_from p (size T) (mine k))
        (judged-on p (size T) (mine k) took-some m (omega arith)
        ∙ ap (λ (q : Position). standing q (q.left - size T) q.stands) at_left
        ∙ ap (λ (v : Verdict). at mine h w pixels before (s.left - size T) (answer_of v))
        (sym (on-with m (omega arith))))
        (λ v. safe-then m) (λ v. omega arith))
        (λ b. stands-then 0 (judged_from p (size T) (mine k))
        (judged-won p (size T) (mine k) took-some m (omega arith)
        ∙ ap (λ (q : Position). standing q 0 Won) at_left
        ∙ ap (λ (v : Verdict). at mine h w pixels before 0 (answer_of v)) (sym (won-then m (omega arith))))
        (λ v. absurd (won-not (sym (won-then m (omega arith)) ∙ v)))
        (λ v. absurd (won-not (sym (won-then m (omega arith)) ∙ v))))
        (lt-or_ge (size T) s.left))
        (true_or_false (mine k))
