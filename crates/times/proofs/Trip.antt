-- A count n of milliseconds above 0 and below 2 ^ 32, on its way to seconds and back: each of the two
-- roundings is off by at most one part in 2 ^ 53, so the product is nearer to n than a half. Assumes nothing.
use mathlib.Core.Path.{◌≡◌, refl, sym, subst}
use Prim.Native.Nat.{ℕ, ◌+◌, ◌*◌, ◌^◌, ◌≤◌, ◌<◌, min}
use native.Mathlib.Nat.{le_trans, le-mul_of_pos_right, le_of_mul-le-mul_right, lt_of_mul-lt-mul_right}
use native.Mathlib.Nat.{mul-le-mul_right, mul-lt-mul_of_pos_right, mul-pos}
use native.Mathlib.Omega.{arith}
use mathlib.Core.Bool.{true, false, true≢false}
use lib.Dec.{lit≤, lit<}
use lib.Pow.{pow_pos}
use lib.Ieee.{Float, nan, inf, fin, binary64, up, down, round, of_int, mul, div}
use lib.Ieee.Fits.{down_pos}
use lib.Ieee.Exact.{HasValue}
use lib.Ieee.Back.{round_whole}
use lib.Ieee.Scale.{grid, overflow, round_same, round_val, normal_of_fraction}
use lib.Ieee.Positive.{positive_of_value, mul_at}
use Rattle.times.specs.Times.{thousand, seconds_of, Nearest, whole_by}
use Rattle.times.proofs.Error.{Near, grid_near}

-- ---- a float that is P / W, nearer to n than a half
pub capped : (x n : ℕ) → x ≡ n → n < 4294967296 → min x 4294967295 ≡ n
capped x n e h = omega arith

whole_of : (rule : ℕ → ℕ → ℕ) → Nearest rule → (x : Float) (n P W : ℕ) → 0 < W → n < 4294967296
    → HasValue x false P W
    → P * 2 < n * W * 2 + W → n * W * 2 < P * 2 + W → whole_by rule x ≡ n
unfolding whole_by
whole_of rule R nan n P W w N v h k = absurd v
whole_of rule R (inf s) n P W w N v h k = absurd v
whole_of rule R (fin true m e) n P W w N v h k = absurd (true≢false v.0)
whole_of rule R (fin false m e) n P W w N v h k =
    let a = m * up e in
    let b = down e in
    let B : 0 < b = down_pos e in
    capped (rule a b) n (R a b n B (below a b B v.1) (above a b B v.1)) N
  where
    below : (a b : ℕ) → 0 < b → a * W ≡ P * b → a * 2 < n * b * 2 + b
    below a b B e = lt_of_mul-lt-mul_right W (omega (arith, e, mul-lt-mul_of_pos_right h B))

    above : (a b : ℕ) → 0 < b → a * W ≡ P * b → n * b * 2 < a * 2 + b
    above a b B e = lt_of_mul-lt-mul_right W (omega (arith, e, mul-lt-mul_of_pos_right k B))

-- ---- numbers: a count n, in units of 1 / w; a and q are what the two roundings gave. Each is off by at
-- most one part in 2 ^ 35 (in fact in 2 ^ 53), and n is below 2 ^ 32.
abbrev p35 : ℕ
p35 = 34359738368

coarser : (k h x n : ℕ) → 0 < h → Near (k * h) x n → Near k x n
coarser k h x n H w = (
  le_of_mul-le-mul_right (omega (arith, w.0, le-mul_of_pos_right n H)) H,
  le_of_mul-le-mul_right (omega (arith, w.1, le-mul_of_pos_right n H)) H,
)

cancel : (p x n w : ℕ) → 0 < w → Near p (x * w) (n * w) → Near p x n
cancel p x n w W h =
    (le_of_mul-le-mul_right (omega (arith, h.0)) W, le_of_mul-le-mul_right (omega (arith, h.1)) W)

-- what is near is at most twice as much
at-most_twice : (x v : ℕ) → Near p35 x v → (x ≤ v * 2) × (v ≤ x * 2)
at-most_twice x v h = omega arith

-- two roundings are off by three parts at most
drift : (p a q v : ℕ) → a ≤ v * 2 → Near p a v → Near p q a
    → (q * p ≤ v * p + v * 3) × (v * p ≤ q * p + v * 3)
drift p a q v d h k = omega arith

below_half : (q v w : ℕ) → 0 < w → v ≤ 4294967295 * w
    → (q * p35 ≤ v * p35 + v * 3) × (v * p35 ≤ q * p35 + v * 3) → (q * 2 < v * 2 + w) × (v * 2 < q * 2 + w)
below_half q v w W L h = omega arith

at_most : (n w : ℕ) → n < 4294967296 → n * w ≤ 4294967295 * w
at_most n w N = mul-le-mul_right w (pred n N)
  where
    pred : (k : ℕ) → k < 4294967296 → k ≤ 4294967295
    pred k h = omega arith

-- ---- the quotient
quotient : (x : Float) (n : ℕ) → HasValue x false n 1 → div binary64 x thousand ≡ round binary64 false n 1000
unfolding div
quotient nan n v = absurd v
quotient (inf s) n v = absurd v
quotient (fin true m e) n v = absurd (true≢false v.0)
quotient (fin false m e) n v =
    round_same binary64 false (m * up e * 1) (1000 * down e) n 1000 (mul-pos (lit< tt) (down_pos e)) (lit< tt)
    (cross (m * up e) (down e) v.1)
  where
    cross : (a b : ℕ) → a * 1 ≡ n * b → a * 1 * 1000 ≡ n * (1000 * b)
    cross a b h = omega arith

small_enough : (n : ℕ) → n < 4294967296 → n ≤ 9007199254740992
small_enough n h = omega arith

pub seconds_is : (n : ℕ) → n < 4294967296 → seconds_of n ≡ round binary64 false n 1000
unfolding seconds_of of_int
seconds_is n h = quotient (round binary64 false n 1) n (round_whole binary64 false n (small_enough n h))

-- ---- a count above 0, in units of 2 ^ -1074, the least binary64 above 0
abbrev pub w : ℕ
w = 2 ^ 1074

w_pos : 0 < w
w_pos = pow_pos 1074

coarse : (x n : ℕ) → Near (2 ^ 53) x n → Near p35 x n
coarse x n h = coarser p35 262144 x n (lit< tt) h

room : (x v w o : ℕ) → 0 < w → v ≤ 4294967295 * w → x ≤ v * 4 → w * 17179869184 ≤ o → x < o
room x v w o W h k l = omega arith

enough : (a v w : ℕ) → v ≤ a * 2 → w ≤ v → 9007199254740992 ≤ w → 4503599627370496 ≤ a
enough a v w h k l = omega arith

some : (g v w : ℕ) → v ≤ g * 1000 * 2 → w ≤ v → 0 < w → 0 < g
some g v w h k l = omega arith

part : (g v : ℕ) → g * 1000 ≤ v * 2 → g ≤ v * 4
part g v h = omega arith

both : (q a v : ℕ) → q ≤ a * 2 → a ≤ v * 2 → q ≤ v * 4
both q a v h k = omega arith

one_mul-le : (n w : ℕ) → 0 < n → w ≤ n * w
one_mul-le n w h = omega (arith, mul-le-mul_right w h)

module _ (n : ℕ) (N : n < 4294967296) (Z : 0 < n) where
  abbrev pub g : ℕ
  g = grid binary64 n 1000

  abbrev q : ℕ
  q = grid binary64 (g * 1000) w

  first : Near p35 (g * 1000) (n * w)
  first = coarse (g * 1000) (n * w)
      (grid_near binary64 n 1000 (lit< tt)
      (normal_of_fraction binary64 n 1000 (lit< tt) (le_trans (lit≤ tt) (one_mul-le n w Z))))

  first-twice : (g * 1000 ≤ n * w * 2) × (n * w ≤ g * 1000 * 2)
  first-twice = at-most_twice (g * 1000) (n * w) first

  pub seconds-value : HasValue (seconds_of n) false g w
  seconds-value =
      subst (λ (x : Float). HasValue x false g w) (sym (seconds_is n N))
      (round_val binary64 n 1000
      (room g (n * w) w (overflow binary64) w_pos (at_most n w N) (part g (n * w) first-twice.0)
      (lit≤ tt)))

  second : Near p35 q (g * 1000)
  second =
      coarse q (g * 1000)
      (cancel (2 ^ 53) q (g * 1000) w w_pos
      (grid_near binary64 (g * 1000) w w_pos
      (normal_of_fraction binary64 (g * 1000) w w_pos
      (mul-le-mul_right w (enough (g * 1000) (n * w) w first-twice.1 (one_mul-le n w Z) (lit≤ tt))))))

  product_value : HasValue (mul binary64 (seconds_of n) thousand) false q w
  product_value =
      subst (λ (x : Float). HasValue x false q w)
      (sym (mul_at binary64 (seconds_of n) thousand g w 1000 1
      (positive_of_value (seconds_of n) g w seconds-value
      (some g (n * w) w first-twice.1 (one_mul-le n w Z) w_pos)) tt w_pos (lit< tt) seconds-value
      (refl, refl)))
      (round_val binary64 (g * 1000) w
      (room q (n * w) w (overflow binary64) w_pos (at_most n w N)
      (both q (g * 1000) (n * w) (at-most_twice q (g * 1000) second).0 first-twice.0) (lit≤ tt)))

  pub trip-above : (rule : ℕ → ℕ → ℕ) → Nearest rule → whole_by rule (mul binary64 (seconds_of n) thousand) ≡ n
  trip-above rule R =
      let h = below_half q (n * w) w w_pos (at_most n w N)
      (drift p35 (g * 1000) q (n * w) first-twice.0 first second) in
      whole_of rule R (mul binary64 (seconds_of n) thousand) n q w w_pos N product_value h.0 h.1
