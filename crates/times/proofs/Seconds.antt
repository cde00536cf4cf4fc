-- What holds of every count of milliseconds below 2 ^ 32 and its seconds. Assumes nothing.
--     ms_small           seconds of any kind, NaN too, are such a count by `s_to_ms`
--     trip               it survives the way to seconds and back, by every rule for the nearest whole number
--     rules_nearest      both rules are such
--     round_trip         so it does by `s_to_ms`, whatever the rule
--     seconds_injective  no two counts have the same seconds
--     seconds_mono       more milliseconds are not fewer seconds
--     seconds_finite     seconds are finite
--     seconds-number     and so no NaN
--     seconds_fits       and a binary64
use mathlib.Core.Path.{◌≡◌, sym, ap, ◌∙◌, subst}
use mathlib.Core.Logic.{inl, inr}
use Prim.Native.Nat.{ℕ, ◌+◌, ◌*◌, ◌/◌, ◌%◌, ◌^◌, ◌≤◌, ◌<◌, min}
use native.Mathlib.Nat.{lt_of_le_of_lt, mul-le-mul_right, div-eq_of_lt-le, eq-zero-or-pos, div-add-mod'}
use native.Mathlib.Nat.{lt_of_mul-lt-mul_right}
use native.Mathlib.Omega.{arith}
use mathlib.Core.Bool.{Bool, true, false, not, cond}
use lib.IntN.{pos}
use lib.Dec.{T, eqb, lit<}
use lib.Ieee.{Float, nan, inf, fin, binary64, up, down, round, of_int, mul, div, fits, is_nan, le}
use lib.Ieee.Fits.{div-fits}
use lib.Ieee.Exact.{HasValue}
use lib.Ieee.Order.{round_mono}
use lib.Ieee.Scale.{finite}
use borrow.Author.Tests.{ne_eqb}
use Rattle.times.specs.Times.{thousand, seconds_of, half_away, half_even, Nearest, whole_by, ms_by}
use Rattle.times.specs.Times.{halves_away, halves_to_even, rounding_of, s_to_ms}
use Rattle.times.proofs.Trip.{capped, seconds_is, w, g, seconds-value, trip-above}

-- ---- below 2 ^ 32
at_most : (n : ℕ) → min n 4294967295 < 2 ^ 32
at_most n = omega arith

whole-small : (rule : ℕ → ℕ → ℕ) (x : Float) → whole_by rule x < 2 ^ 32
unfolding whole_by
whole-small rule nan = lit< tt
whole-small rule (inf true) = lit< tt
whole-small rule (inf false) = lit< tt
whole-small rule (fin true m e) = lit< tt
whole-small rule (fin false m e) = at_most (rule (m * up e) (down e))

pub ms_small : (rule : ℕ) (s : Float) → s_to_ms rule s < 2 ^ 32
unfolding s_to_ms ms_by
ms_small rule s = whole-small (rounding_of rule) (mul binary64 s thousand)

-- ---- there and back
trip_zero : (rule : ℕ → ℕ → ℕ) → Nearest rule → ms_by rule (seconds_of 0) ≡ 0
unfolding ms_by seconds_of of_int div mul round whole_by
trip_zero rule R = capped (rule 0 1) 0 (R 0 1 0 (lit< tt) (lit< tt) (lit< tt)) (lit< tt)

trip_some : (rule : ℕ → ℕ → ℕ) → Nearest rule → (n : ℕ) → n < 2 ^ 32 → 0 < n → ms_by rule (seconds_of n) ≡ n
unfolding ms_by
trip_some rule R n h p = trip-above n h p rule R

pub trip : (rule : ℕ → ℕ → ℕ) → Nearest rule → (n : ℕ) → n < 2 ^ 32 → ms_by rule (seconds_of n) ≡ n
trip rule R n h =
    elim (eq-zero-or-pos n) [
      | inl z ↦ subst (λ (k : ℕ). ms_by rule (seconds_of k) ≡ k) (sym z) (trip_zero rule R)
      | inr p ↦ trip_some rule R n h p
    ]

pub half_away_nearest : Nearest half_away
half_away_nearest a b n B h k = div-eq_of_lt-le (2 * b) (omega arith) (omega arith)

-- a fraction that is nearer to n than a half is not at a half: its whole part would be below n and not below
not_half : (a b n : ℕ) → a * 2 < n * b * 2 + b → n * b * 2 < a * 2 + b → a % b * 2 ≡ b → ⊥
not_half a b n h k e =
    let q = a / b in
    let parts : q * b + a % b ≡ a = div-add-mod' a b in
    let low : q < n = lt_of_mul-lt-mul_right b (omega (arith, parts)) in
    let high : n < q + 1 = lt_of_mul-lt-mul_right b (omega (arith, parts)) in
    omega (arith, low, high)

pub half_even_nearest : Nearest half_even
half_even_nearest a b n B h k =
    rw (ne_eqb (a % b * 2) b (not_half a b n h k)) (half_away_nearest a b n B h k)

pub rules_nearest : (rule : ℕ) → Nearest (rounding_of rule)
rules_nearest rule = either (eqb rule halves_to_even)
  where
    either : (even : Bool) → Nearest (cond even half_even half_away)
    either true = half_even_nearest
    either false = half_away_nearest

pub round_trip : (rule n : ℕ) → n < 2 ^ 32 → s_to_ms rule (seconds_of n) ≡ n
unfolding s_to_ms
round_trip rule n h = trip (rounding_of rule) (rules_nearest rule) n h

pub seconds_injective : (m n : ℕ) → m < 2 ^ 32 → n < 2 ^ 32 → seconds_of m ≡ seconds_of n → m ≡ n
seconds_injective m n h k e =
    sym (round_trip halves_away m h) ∙ ap (s_to_ms halves_away) e ∙ round_trip halves_away n k

-- ---- order
pub seconds_mono : (m n : ℕ) → m ≤ n → n < 2 ^ 32 → T (le (seconds_of m) (seconds_of n))
seconds_mono m n h k =
    subst (λ (x : Float). T (le x (seconds_of n))) (sym (seconds_is m (lt_of_le_of_lt h k)))
    (subst (λ (x : Float). T (le (round binary64 false m 1000) x)) (sym (seconds_is n k))
    (round_mono binary64 m 1000 n 1000 (lit< tt) (lit< tt) (mul-le-mul_right 1000 h)))

-- ---- what sort of float
finite_of : (x : Float) (a c : ℕ) → HasValue x false a c → T (finite x)
finite_of nan a c v = v
finite_of (inf s) a c v = v
finite_of (fin s m e) a c v = tt

zero_finite : T (finite (seconds_of 0))
unfolding seconds_of of_int div round
zero_finite = tt

pub seconds_finite : (n : ℕ) → n < 2 ^ 32 → T (finite (seconds_of n))
seconds_finite n h =
    elim (eq-zero-or-pos n) [
      | inl z ↦ subst (λ (k : ℕ). T (finite (seconds_of k))) (sym z) zero_finite
      | inr p ↦ finite_of (seconds_of n) (g n h p) w (seconds-value n h p)
    ]

number : (x : Float) → T (finite x) → T (not (is_nan x))
unfolding is_nan
number nan t = t
number (inf s) t = tt
number (fin s m e) t = tt

pub seconds-number : (n : ℕ) → n < 2 ^ 32 → T (not (is_nan (seconds_of n)))
seconds-number n h = number (seconds_of n) (seconds_finite n h)

pub seconds_fits : (n : ℕ) → T (fits binary64 (seconds_of n))
unfolding seconds_of
seconds_fits n = div-fits binary64 (of_int binary64 (pos n)) thousand
