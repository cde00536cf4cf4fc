-- For whoever wants to believe `neighbours`: of the cells of a board it lists those that touch cell k, by a
-- side or a corner, each exactly once, and no other (`touching`). Assumes nothing.
use mathlib.Core.Path.{◌≡◌, refl, sym, ap, ◌∙◌}
use mathlib.Core.Bool.{Bool, true, false, cond, not, ◌&&◌}
use mathlib.Core.List.{List, [], ◌∷◌, map}
use mathlib.Core.Logic.{⊎_elim}
use Prim.Native.Nat.{ℕ, ◌+◌, ◌-◌, ◌*◌, ◌/◌, ◌%◌, ◌<◌, ◌≤◌}
use native.Mathlib.Nat.{eq-or-lt_of_le, mul-zero, add-mul, div-add-mod'}
use native.Mathlib.Omega.{arith}
use lib.Arith.{digits_div, digits_mod}
use lib.Dec.{leb, eqb}
use borrow.Author.Tests.{eq-eqb, ne_eqb, eqb-true, eqb-false, le-leb, lt-leb}
use Rattle.lists.specs.Lists.{count}
use Rattle.lists.proofs.Each.{count-append}
use Rattle.board.specs.Geometry.{before, behind, beside, near, crossing, neighbours}
use Rattle.board.proofs.Places.{on, lt-or_ge}
use Rattle.board.proofs.Around.{before-none, before-one, behind-none, behind-one}
use Rattle.board.proofs.Same.{Below, beside-below, near-below}

-- two places that are the same or next to each other
abbrev pub close : ℕ → ℕ → Bool
close a b = leb a (b + 1) && leb b (a + 1)

-- two other cells whose rows and whose columns are close
abbrev pub touches : ℕ → ℕ → ℕ → Bool
touches w k j = not (eqb j k) && (close (k / w) (j / w) && close (k % w) (j % w))

-- ONE DIMENSION

module _ (x i : ℕ) where
  before-hit : x + 1 ≡ i → count (eqb x) (before i) ≡ 1
  before-hit e = before-one (count (eqb x)) i (omega arith) ∙ rw (eq-eqb x (i - 1) (omega arith))

  before-miss : (x + 1 ≡ i → ⊥) → count (eqb x) (before i) ≡ 0
  before-miss h =
      ⊎_elim (λ l. before-one (count (eqb x)) i l ∙ rw (ne_eqb x (i - 1) (λ e. h (omega arith))))
      (λ l. before-none (count (eqb x)) i l) (lt-or_ge 0 i)

  behind-hit : (n : ℕ) → x < n → x ≡ i + 1 → count (eqb x) (behind n i) ≡ 1
  behind-hit n l e = behind-one (count (eqb x)) n i (omega arith) ∙ rw (eq-eqb x (i + 1) e)

  behind-miss : (n : ℕ) → (x ≡ i + 1 → ⊥) → count (eqb x) (behind n i) ≡ 0
  behind-miss n h =
      ⊎_elim (λ l. behind-one (count (eqb x)) n i l ∙ rw (ne_eqb x (i + 1) h))
      (λ l. behind-none (count (eqb x)) n i l) (lt-or_ge (i + 1) n)

  -- where x stands to i
  data Stands : Type 0 where
    far-before : x + 1 < i → Stands
    just-before : x + 1 ≡ i → Stands
    here : x ≡ i → Stands
    just_behind : x ≡ i + 1 → Stands
    far-behind : i + 1 < x → Stands

  stands : Stands
  stands =
      ⊎_elim (λ l. ⊎_elim (λ e. just-before e) (λ m. far-before m) (eq-or-lt_of_le (up l)))
      (λ g. ⊎_elim (λ e. here (sym e))
      (λ m. ⊎_elim (λ e. just_behind (sym e)) (λ o. far-behind o) (eq-or-lt_of_le (up m)))
      (eq-or-lt_of_le g))
      (lt-or_ge x i)
    where
      up : {a b : ℕ} → a < b → a + 1 ≤ b
      up l = omega arith

  both-sides : (n : ℕ) → count (eqb x) (beside n i) ≡ count (eqb x) (before i) + count (eqb x) (behind n i)
  unfolding beside
  both-sides n = count-append (eqb x) (before i) (behind n i)

  next : (n : ℕ) → x < n → Stands → count (eqb x) (beside n i) ≡ cond (not (eqb x i) && close i x) 1 0
  next n l (far-before h) =
      rw (ne_eqb x i (omega arith), lt-leb i (x + 1) h)
      (omega (arith, both-sides n, before-miss (omega arith), behind-miss n (omega arith)))
  next n l (just-before h) =
      rw (ne_eqb x i (omega arith), le-leb i (x + 1) (omega arith), le-leb x (i + 1) (omega arith))
      (omega (arith, both-sides n, before-hit h, behind-miss n (omega arith)))
  next n l (here h) =
      rw (eq-eqb x i h) (omega (arith, both-sides n, before-miss (omega arith), behind-miss n (omega arith)))
  next n l (just_behind h) =
      rw (ne_eqb x i (omega arith), le-leb i (x + 1) (omega arith), le-leb x (i + 1) (omega arith))
      (omega (arith, both-sides n, before-miss (omega arith), behind-hit n l h))
  next n l (far-behind h) =
      rw (ne_eqb x i (omega arith), le-leb i (x + 1) (omega arith), lt-leb x (i + 1) h)
      (omega (arith, both-sides n, before-miss (omega arith), behind-miss n (omega arith)))

  beside-close : (n : ℕ) → x < n → count (eqb x) (beside n i) ≡ cond (not (eqb x i) && close i x) 1 0
  beside-close n l = next n l stands

  same-close : eqb x i ≡ true → close i x ≡ true
  same-close e =
      let h = eqb-true x i e in
      rw (le-leb i (x + 1) (omega arith), le-leb x (i + 1) (omega arith))

  near-close : (n : ℕ) → x < n → count (eqb x) (near n i) ≡ cond (close i x) 1 0
  unfolding near
  near-close n l = rw (beside-close n l) (own (eqb x i) (close i x) same-close)
    where
      own : (e c : Bool) → (e ≡ true → c ≡ true) → cond e 1 0 + cond (not e && c) 1 0 ≡ cond c 1 0
      own true c h = rw (h refl)
      own false c h = omega arith

-- TWO DIMENSIONS

module _ (w j : ℕ) where
  -- cell j is in column x of row r if its row is r and its column x
  same-cell : (r x : ℕ) → x < w → eqb j (r * w + x) ≡ (eqb (j / w) r && eqb (j % w) x)
  same-cell r x l =
      (elim (eqb (j / w) r) as (λ t. eqb (j / w) r ≡ t → eqb j (r * w + x) ≡ (t && eqb (j % w) x)) [
        | true ↦ λ e.
            (elim (eqb (j % w) x) as (λ u. eqb (j % w) x ≡ u → eqb j (r * w + x) ≡ u) [
              | true ↦ λ f. eq-eqb j (r * w + x)
                  (sym (div-add-mod' j w) ∙ rw (eqb-true (j / w) r e, eqb-true (j % w) x f))
              | false ↦ λ f. ne_eqb j (r * w + x)
                  (λ g. eqb-false (j % w) x f (ap (λ y. y % w) g ∙ digits_mod r l))
            ])
            refl
        | false ↦ λ e. ne_eqb j (r * w + x) (λ g. eqb-false (j / w) r e (ap (λ y. y / w) g ∙ digits_div r l))
      ])
      refl

  spread : (e f : Bool) (n : ℕ) → cond (e && f) 1 0 + cond e 1 0 * n ≡ cond e 1 0 * (cond f 1 0 + n)
  spread true f n = omega arith
  spread false f n = omega arith

  in_row : (r : ℕ) (cs : List ℕ) → Below w cs
      → count (eqb j) (map (λ c. r * w + c) cs) ≡ cond (eqb (j / w) r) 1 0 * count (eqb (j % w)) cs
  in_row r [] b = sym (mul-zero (cond (eqb (j / w) r) 1 0))
  in_row r (x ∷ cs) b =
      rw (same-cell r x b.0, in_row r cs b.1)
      (spread (eqb (j / w) r) (eqb (j % w) x) (count (eqb (j % w)) cs))

  in_rows : (rs cs : List ℕ) → Below w cs
      → count (eqb j) (crossing w rs cs) ≡ count (eqb (j / w)) rs * count (eqb (j % w)) cs
  unfolding crossing
  in_rows [] cs b = omega arith
  in_rows (r ∷ rs) cs b =
      count-append (eqb j) (map (λ c. r * w + c) cs) (crossing w rs cs)
      ∙ rw (in_row r cs b, in_rows rs cs b)
      (sym (add-mul (cond (eqb (j / w) r) 1 0) (count (eqb (j / w)) rs) (count (eqb (j % w)) cs)))

-- the tests of both dimensions together: e, f that row and column are the same, p, q that they are close
together : (e p f q : Bool) → (e ≡ true → p ≡ true)
    → cond (not e && p) 1 0 * cond q 1 0 + (cond e 1 0 + 0) * cond (not f && q) 1 0
    ≡ cond (not (e && f) && (p && q)) 1 0
together true true f q h = omega arith
together true false f q h = absurd (let z : ◌≡◌ {A = ℕ} 0 1 = ap (λ t. cond t 1 0) (h refl) in omega arith)
together false true f q h = omega arith
together false false f q h = omega arith

-- of the cells j of the board, `neighbours` lists those that touch k, once each
pub touching : (h w k j : ℕ) → k < h * w → j < h * w
    → count (eqb j) (neighbours h w k) ≡ cond (touches w k j) 1 0
unfolding neighbours
touching h w k j l m =
    let p = on h w k l in
    let o = on h w j m in
    let r = k / w in
    let c = k % w in
    let e : eqb j k ≡ (eqb (j / w) r && eqb (j % w) c) =
    ap (eqb j) (sym (div-add-mod' k w)) ∙ same-cell w j r c p.column in
    count-append (eqb j) (crossing w (beside h r) (near w c)) (crossing w (r ∷ []) (beside w c))
    ∙ rw (
      in_rows w j (beside h r) (near w c) (near-below w c p.column),
      in_rows w j (r ∷ []) (beside w c) (beside-below w c p.column),
      beside-close (j / w) r h o.row,
      near-close (j % w) c w o.column,
      beside-close (j % w) c w o.column,
      e,
    )
    (together (eqb (j / w) r) (close r (j / w)) (eqb (j % w) c) (close c (j % w)) (same-close (j / w) r))
