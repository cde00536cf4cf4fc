-- The two rules, each as a step from the whole part that goes by the rest. Assumes nothing.
--     rule-moves, rule-stays       what a fraction is rounded to, by its parts
--     rule-whole, rule-fraction    what a float is, whose parts are a whole number or those of a fraction
use mathlib.Core.Path.{◌≡◌, refl, sym, ap, ◌∙◌, subst}
use Prim.Native.Nat.{ℕ, ◌+◌, ◌*◌, ◌/◌, ◌%◌, ◌≤◌, ◌<◌, min, compare, Ordering}
use native.Mathlib.Nat.{le_refl, le-add_right, le_trans, div-add-mod', mod-lt, div-eq_of_lt-le}
use native.Mathlib.Omega.{arith}
use mathlib.Core.Bool.{Bool, true, false, not, cond}
use lib.Dec.{T, eqb, ltb, nltb→le}
use lib.Ieee.{Float, nan, inf, fin, up, down}
use lib.Ieee.Fits.{down_pos}
use borrow.Author.Tests.{eq-eqb, ne_eqb}
use Rattle.times.proofs.Parts.{Rest, Below, Half, Above, Parts, rest_by, largest, fraction_parts}
use Rattle.times.proofs.Parts.{parts_of}
use Rattle.times.specs.Times.{half_away, half_even, halves_to_even, rounding_of, whole_by}
use Rattle.times.proofs.Fractions.{Cmp, cmp, lt-eq}

-- ---- the largest u32
capped : (x : ℕ) → 4294967295 ≤ x → min x 4294967295 ≡ 4294967295
capped x h = omega arith

over : (q : ℕ) → 4294967296 ≤ q → 4294967295 ≤ q
over q h = omega arith

kept : (x : ℕ) → x ≤ 4294967295 → min x 4294967295 ≡ x
kept x h = omega arith

-- ---- the step from the whole part by the rest: from a half on up by one, but at a half to even by nothing
-- from an even whole part
abbrev pub step_of : (even : Bool) → ℕ → Rest → ℕ
step_of even q Below = q
step_of even q Half = q + cond even (q % 2) 1
step_of even q Above = q + 1

rises_of : (even : Bool) (q : ℕ) (r : Rest) → q ≤ step_of even q r
rises_of even q Below = le_refl q
rises_of even q Half = le-add_right q (cond even (q % 2) 1)
rises_of even q Above = le-add_right q 1

-- q * b + r, with r below b, and r against a half of b
away_at : (q r b : ℕ) (o : Ordering) → r < b → Cmp o (r * 2) b
    → half_away (q * b + r) b ≡ step_of false q (rest_by o)
away_at q r b Ordering.lt l h = div-eq_of_lt-le (2 * b) (omega arith) (omega arith)
away_at q r b Ordering.eq l h = div-eq_of_lt-le (2 * b) (omega arith) (omega arith)
away_at q r b Ordering.gt l h = div-eq_of_lt-le (2 * b) (omega arith) (omega arith)

away_is : (a b : ℕ) → 0 < b → half_away a b ≡ step_of false (a / b) (rest_by (compare (a % b * 2) b))
away_is a b B =
    ap (λ (x : ℕ). half_away x b) (sym (div-add-mod' a b))
    ∙ away_at (a / b) (a % b) b (compare (a % b * 2) b) (mod-lt a B) (cmp (a % b * 2) b)

-- off a half the rules are the same
even_at : (a b : ℕ) (o : Ordering) → Cmp o (a % b * 2) b → half_away a b ≡ step_of false (a / b) (rest_by o)
    → half_even a b ≡ step_of true (a / b) (rest_by o)
even_at a b Ordering.lt h e = rw (ne_eqb (a % b * 2) b (λ k. lt-eq (a % b * 2) b h k)) e
even_at a b Ordering.eq h e = rw (eq-eqb (a % b * 2) b h)
even_at a b Ordering.gt h e = rw (ne_eqb (a % b * 2) b (λ k. lt-eq b (a % b * 2) h (sym k))) e

rounding_is : (even : Bool) (a b : ℕ) → 0 < b
    → cond even half_even half_away a b ≡ step_of even (a / b) (rest_by (compare (a % b * 2) b))
rounding_is true a b B = even_at a b (compare (a % b * 2) b) (cmp (a % b * 2) b) (away_is a b B)
rounding_is false a b B = away_is a b B

-- ---- a rule by its number, at the parts of a fraction and of a float
module _ (rule : ℕ) where
  abbrev even : Bool
  even = eqb rule halves_to_even

  abbrev capped-step : Parts → ℕ
  capped-step r = min (step_of even r.whole r.rest) 4294967295

  by_fraction : (a b : ℕ) → 0 < b → min (rounding_of rule a b) 4294967295 ≡ capped-step (fraction_parts a b)
  unfolding fraction_parts
  by_fraction a b B = go (ltb (a / b) 4294967296) (nltb→le (a / b) 4294967296)
    where
      go : (t : Bool) → (T (not t) → 4294967296 ≤ a / b)
          → min (rounding_of rule a b) 4294967295
          ≡ capped-step
          (cond t (record { whole = a / b; rest = rest_by (compare (a % b * 2) b) }) largest)
      go true h = ap (λ (x : ℕ). min x 4294967295) (rounding_is even a b B)
      go false h =
          capped (rounding_of rule a b)
          (subst (λ (x : ℕ). 4294967295 ≤ x) (sym (rounding_is even a b B))
          (le_trans (over (a / b) (h tt)) (rises_of even (a / b) (rest_by (compare (a % b * 2) b)))))

  by_parts : (p : Float) → whole_by (rounding_of rule) p ≡ capped-step (parts_of p)
  unfolding whole_by parts_of
  by_parts nan = refl
  by_parts (inf true) = refl
  by_parts (inf false) = refl
  by_parts (fin true m e) = refl
  by_parts (fin false m e) = by_fraction (m * up e) (down e) (down_pos e)

  -- the nearest whole number of a fraction whose parts are r: by the step, and where the rest is below a half
  pub rule-moves : (a b : ℕ) → 0 < b → (r : Parts) → r ≡ fraction_parts a b
      → min (step_of even r.whole r.rest) 4294967295 ≡ min (rounding_of rule a b) 4294967295
  rule-moves a b B r e = ap capped-step e ∙ sym (by_fraction a b B)

  pub rule-stays : (a b : ℕ) → 0 < b → (q : ℕ) → q ≤ 4294967295
      → record { whole = q; rest = Below } ≡ fraction_parts a b → q ≡ min (rounding_of rule a b) 4294967295
  rule-stays a b B q h e = sym (kept q h) ∙ rule-moves a b B (record { whole = q; rest = Below }) e

  -- that of a float whose parts are a whole number q, or those of a fraction
  pub rule-whole : (p : Float) (q : ℕ) → q ≤ 4294967295 → record { whole = q; rest = Below } ≡ parts_of p
      → q ≡ whole_by (rounding_of rule) p
  rule-whole p q h e = sym (kept q h) ∙ ap capped-step e ∙ sym (by_parts p)

  pub rule-fraction : (p : Float) (a b : ℕ) → 0 < b → fraction_parts a b ≡ parts_of p
      → min (rounding_of rule a b) 4294967295 ≡ whole_by (rounding_of rule) p
  rule-fraction p a b B e = by_fraction a b B ∙ ap capped-step e ∙ sym (by_parts p)
