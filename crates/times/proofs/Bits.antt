-- What a binary64's three fields say of its parts: each answer of `whole_by` goes by `parts_of` of the float
-- whose bits it looks at. Assumes nothing.
use mathlib.Core.Path.{◌≡◌, refl, sym, ap, ◌∙◌, subst}
use Prim.Native.Nat.{ℕ, zero, suc, ◌+◌, ◌-◌, ◌*◌, ◌/◌, ◌%◌, ◌^◌, ◌≤◌, ◌<◌}
use native.Mathlib.Nat.{lt_of_lt_of_le, le-add_right, le_of_suc-le-suc, mul_assoc, mul-le-mul, mod-lt}
use native.Mathlib.Omega.{arith}
use mathlib.Core.Bool.{Bool, true, false, not, cond}
use lib.Dec.{T, leb, eqb, not_T, eqb→eq, le→leb, lit≤}
use lib.Arith.{lt→nleb}
use lib.Pow.{field, pow-add, pow_pos, pow_mono, shl_lt}
use lib.Ieee.{Float, nan, inf, fin, binary64, up, down, odd, of_fields, of_bits, to_bits, fits, is_nan, ne}
use lib.Ieee.Bits.{is_true, is_false, cond_no, of_bits-to_bits}
use lib.Ieee.Compare.{differs_from_itself, nan_differs}
use lib.Ieee.Exact.{HasValue, odd_sign}
use lib.Ieee.Fits.{down_pos}
use Rattle.times.proofs.Parts.{nothing, largest, fraction_parts, parts_of}
use Rattle.times.proofs.Fractions.{parts_same, parts_large, parts_small}

-- ---- a float that is not negative, by any fraction that it equals
parts_at : (p : Float) (a c : ℕ) → 0 < c → HasValue p false a c → parts_of p ≡ fraction_parts a c
unfolding parts_of
parts_at nan a c C v = absurd v
parts_at (inf s) a c C v = absurd v
parts_at (fin true m e) a c C v = absurd (subst (λ (s : Bool). T s) v.0 tt)
parts_at (fin false m e) a c C v = parts_same (m * up e) (down e) a c (down_pos e) C v.1

-- q * 2 ^ y of the format's smallest values
parts_odd : (q y : ℕ) → parts_of (odd 53 false q y 1074) ≡ fraction_parts (q * 2 ^ y) (2 ^ 1074)
parts_odd q y = parts_at (odd 53 false q y 1074) (q * 2 ^ y) (2 ^ 1074) (pow_pos 1074)
    (odd_sign 53 false q y 1074)

-- ---- a NaN
pub not_itself : (p : Float) → T (ne p p) → nothing ≡ parts_of p
unfolding parts_of
not_itself p t = sym (ap parts_of (differs_from_itself p t))

pub is_number : (p : Float) → T (not (ne p p)) → T (not (is_nan p))
unfolding is_nan
is_number nan t = subst (λ (b : Bool). T (not b)) nan_differs t
is_number (inf s) t = tt
is_number (fin s m e) t = tt

-- ---- the sign is set
odd_negative : (d q k l : ℕ) → parts_of (odd d true q k l) ≡ nothing
unfolding odd parts_of
odd_negative d zero k l = refl
odd_negative d (suc q) k l = refl

fields_negative : (x t : ℕ) → parts_of (of_fields binary64 true x t) ≡ nothing
unfolding of_fields parts_of
fields_negative zero t = odd_negative 53 t 0 1074
fields_negative (suc x) t =
    go (eqb (suc x) 2047) (eqb t 0) (odd 53 true (2 ^ 52 + t) x 1074) (odd_negative 53 (2 ^ 52 + t) x 1074)
  where
    go : (a b : Bool) (v : Float) → parts_of v ≡ nothing → parts_of (cond a (cond b (inf true) nan) v) ≡ nothing
    go true true v h = refl
    go true false v h = refl
    go false b v h = h

-- ---- the sign is clear: by the exponent's field x and the digits t
-- x is 1055 at least
fields_large : (x t : ℕ) → 1055 ≤ x → T (not (is_nan (of_fields binary64 false x t)))
    → parts_of (of_fields binary64 false x t) ≡ largest
unfolding of_fields parts_of is_nan
fields_large zero t h n = absurd (none h)
  where
    none : 1055 ≤ 0 → ⊥
    none h = omega arith
fields_large (suc y) t h n =
    go (eqb (suc y) 2047) (eqb t 0) (odd 53 false (2 ^ 52 + t) y 1074)
    (parts_odd (2 ^ 52 + t) y ∙ parts_large ((2 ^ 52 + t) * 2 ^ y) (2 ^ 1074) (pow_pos 1074)
    (mul-le-mul (le-add_right (2 ^ 52) t) (pow_mono (le_of_suc-le-suc h)))) n
  where
    go : (a b : Bool) (v : Float) → parts_of v ≡ largest → T (not (is_nan (cond a (cond b (inf false) nan) v)))
        → parts_of (cond a (cond b (inf false) nan) v) ≡ largest
    go true true v h n = refl
    go true false v h n = absurd n
    go false b v h n = h

-- x is below 2047, and not 0
finite : (y t : ℕ) → suc y < 2047
    → parts_of (of_fields binary64 false (suc y) t) ≡ fraction_parts ((2 ^ 52 + t) * 2 ^ y) (2 ^ 1074)
unfolding of_fields
finite y t h =
    ap parts_of
    (cond_no (eqb (suc y) 2047) (cond (eqb t 0) (inf false) nan) (odd 53 false (2 ^ 52 + t) y 1074)
    (not_T (eqb (suc y) 2047) (λ u. off (suc y) (eqb→eq (suc y) 2047 u) h)))
    ∙ parts_odd (2 ^ 52 + t) y
  where
    off : (x : ℕ) → x ≡ 2047 → x < 2047 → ⊥
    off x e h = omega arith

-- x is below 1022
doubled : (a b : ℕ) → a < b → a * 2 < b * 2
doubled a b h = omega arith

with_lead : (h t : ℕ) → t < h → h + t < 2 * h
with_lead h t l = omega arith

subnormal : (t : ℕ) → parts_of (of_fields binary64 false 0 t) ≡ fraction_parts (t * 2 ^ 0) (2 ^ 1074)
unfolding of_fields
subnormal t = parts_odd t 0

fields_small : (x t : ℕ) → x < 1022 → t < 2 ^ 52 → parts_of (of_fields binary64 false x t) ≡ nothing
fields_small zero t h l =
    subnormal t ∙ parts_small (t * 2 ^ 0) (2 ^ 1074)
    (lt_of_lt_of_le (doubled (t * 2 ^ 0) (2 ^ 52) (shl_lt 52 0 l)) (lit≤ tt))
fields_small (suc y) t h l =
    finite y t (lt_of_lt_of_le h (lit≤ tt))
    ∙ parts_small ((2 ^ 52 + t) * 2 ^ y) (2 ^ 1074)
    (doubled ((2 ^ 52 + t) * 2 ^ y) (2 ^ 1073)
    (lt_of_lt_of_le (shl_lt 53 y (with_lead (2 ^ 52) t l)) (pow_mono (room y h))))
  where
    room : (y : ℕ) → suc y < 1022 → 53 + y ≤ 1073
    room y h = omega arith

-- x is between: the float is (2 ^ 52 + t) / 2 ^ (1075 - x)
fields_between : (x t : ℕ) → 1022 ≤ x → x < 1055
    → parts_of (of_fields binary64 false x t) ≡ fraction_parts (2 ^ 52 + t) (2 ^ (1075 - x))
fields_between zero t h l = absurd (none h)
  where
    none : 1022 ≤ 0 → ⊥
    none h = omega arith
fields_between (suc y) t h l =
    let m = 2 ^ 52 + t in
    let k = 1075 - suc y in
    finite y t (lt_of_lt_of_le l (lit≤ tt))
    ∙ parts_same (m * 2 ^ y) (2 ^ 1074) m (2 ^ k) (pow_pos 1074) (pow_pos k)
    (mul_assoc m (2 ^ y) (2 ^ k)
    ∙ ap (λ (z : ℕ). m * z) (sym (pow-add 2 y k) ∙ ap (λ (z : ℕ). 2 ^ z) (all y l)))
  where
    all : (y : ℕ) → suc y < 1055 → y + (1075 - suc y) ≡ 1074
    all y l = omega arith

-- ---- from the fields to the pattern b, with the fields as the code reads them
of_bits_is : (b : ℕ)
    → of_bits binary64 b ≡ of_fields binary64 (leb (2 ^ 63) b) (b % 2 ^ 63 / 2 ^ 52) (b % 2 ^ 52)
unfolding of_bits
of_bits_is b = refl

negative : (b : ℕ) → 2 ^ 63 ≤ b → parts_of (of_bits binary64 b) ≡ nothing
negative b h =
    ap parts_of
    (of_bits_is b ∙ ap (λ (s : Bool). of_fields binary64 s (b % 2 ^ 63 / 2 ^ 52) (b % 2 ^ 52))
    (is_true (leb (2 ^ 63) b) (le→leb (2 ^ 63) b h)))
    ∙ fields_negative (b % 2 ^ 63 / 2 ^ 52) (b % 2 ^ 52)

positive : (b : ℕ) → b < 2 ^ 63 → of_bits binary64 b ≡ of_fields binary64 false (b / 2 ^ 52 % 2048) (b % 2 ^ 52)
positive b h =
    of_bits_is b
    ∙ ap (λ (s : Bool). of_fields binary64 s (b % 2 ^ 63 / 2 ^ 52) (b % 2 ^ 52))
    (is_false (leb (2 ^ 63) b) (lt→nleb (2 ^ 63) b h))
    ∙ ap (λ (x : ℕ). of_fields binary64 false x (b % 2 ^ 52)) (field b 11 52)

-- ---- the answers, for the bits of a float p
module _ (p : Float) where
  abbrev bits : ℕ
  bits = to_bits binary64 p

  abbrev exponent : ℕ
  exponent = bits / 2 ^ 52 % 2048

  abbrev digits : ℕ
  digits = bits % 2 ^ 52

  digits_lt : digits < 2 ^ 52
  digits_lt = mod-lt bits (pow_pos 52)

  pub if-negative : T (fits binary64 p) → 2 ^ 63 ≤ bits → nothing ≡ parts_of p
  if-negative F h = sym (ap parts_of (sym (of_bits-to_bits binary64 p F)) ∙ negative bits h)

  read : T (fits binary64 p) → bits < 2 ^ 63 → p ≡ of_fields binary64 false exponent digits
  read F h = sym (of_bits-to_bits binary64 p F) ∙ positive bits h

  pub if-large : T (fits binary64 p) → bits < 2 ^ 63 → 1055 ≤ exponent → T (not (is_nan p))
      → largest ≡ parts_of p
  if-large F h l n = sym
      (ap parts_of (read F h) ∙ fields_large exponent digits l
      (subst (λ (v : Float). T (not (is_nan v))) (read F h) n))

  pub if-small : T (fits binary64 p) → bits < 2 ^ 63 → exponent < 1022 → nothing ≡ parts_of p
  if-small F h l = sym (ap parts_of (read F h) ∙ fields_small exponent digits l digits_lt)

  -- between 1 / 2 and 2 ^ 32
  pub digits-small : 2 ^ 52 + digits < 2 ^ 53
  digits-small = with_lead (2 ^ 52) digits digits_lt

  pub if-between : T (fits binary64 p) → bits < 2 ^ 63 → 1022 ≤ exponent → exponent < 1055
      → fraction_parts (2 ^ 52 + digits) (2 ^ (1075 - exponent)) ≡ parts_of p
  if-between F h l u = sym (ap parts_of (read F h) ∙ fields_between exponent digits l u)
