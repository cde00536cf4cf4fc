-- Reading a decimal number one digit at a time, and what no further digit can mend. Assumes nothing.
use Prim.Native.Nat.{ℕ, ◌+◌, ◌^◌, ◌<◌, ◌≤◌}
use mathlib.Core.Path.{◌≡◌, refl, sym, ◌∙◌}
use mathlib.Core.Bool.{Bool, true, false, ◌&&◌, cond, and-true, and-false}
use mathlib.Core.List.{List, [], ◌∷◌, foldl}
use native.Mathlib.Nat.{le_trans}
use native.Mathlib.Numerals.{add-one}
use native.Mathlib.Omega.{arith}
use lib.Dec.{ltb, eqb}
use lib.Pointwise.{pointwise}
use lib.ListN.{length, get_or, take, drop, length-drop, drop_of_length-le}
use lib.Seq.{drop-cons}
use borrow.Author.Tests.{lt-ltb, le-ltb, le-leb, lt-leb}
use Rattle.text.specs.Bytes.{all}
use Rattle.text.specs.Decimals.{is_digit, more, in_digits, decimal_of}
use Rattle.std.specs.Prelude.{Option, Some, None}

-- the number that v and then the digits spell
unfoldable pub after : List ℕ → ℕ → Option ℕ
after ds v = cond (all is_digit ds && ltb (foldl more v ds) (2 ^ 64)) (Some (foldl more v ds)) None

grows : (ds : List ℕ) (v : ℕ) → v ≤ foldl more v ds
grows [] v = omega arith
grows (d ∷ ds) v = let l : v ≤ more v d = omega arith in le_trans l (grows ds (more v d))

too_big : (ds : List ℕ) (v : ℕ) → 2 ^ 64 ≤ v → after ds v ≡ None
unfolding after
too_big ds v h =
    let l : 2 ^ 64 ≤ foldl more v ds = le_trans h (grows ds v) in
    rw (le-ltb _ _ l, and-false (all is_digit ds))

module _ (s : List ℕ) (i : ℕ) where
  cons : i < length s → drop i s ≡ get_or s i 0 ∷ drop (i + 1) s
  cons h = rw add-one (drop-cons s i 0 h)

  pub starts-at : i < length s → in_digits (drop i s) ≡ after (drop i s) 0
  unfolding in_digits after
  starts-at h =
      let l : 0 < length (drop i s) = simp length-drop (omega arith) in
      rw (lt-ltb _ _ l)

  pub none_from : i ≡ length s → in_digits (drop i s) ≡ None
  unfolding in_digits
  none_from e = let l : length s ≤ i = omega arith in rw (drop_of_length-le s l)

  pub ends_at : (v : ℕ) → length s ≤ i → v < 2 ^ 64 → after (drop i s) v ≡ Some v
  unfolding after
  ends_at v l h = rw (drop_of_length-le s l, lt-ltb _ _ h)

  module _ (v : ℕ) (h : i < length s) where
    pub low-at : get_or s i 0 < 48 → after (drop i s) v ≡ None
    unfolding after
    low-at l = rw (cons h, lt-leb _ _ l)

    pub high-at : 57 < get_or s i 0 → after (drop i s) v ≡ None
    unfolding after
    high-at l = let k : 48 ≤ get_or s i 0 = omega arith in rw (cons h, le-leb _ _ k, lt-leb _ _ l)

    pub digit_at : 48 ≤ get_or s i 0 → get_or s i 0 ≤ 57
        → after (drop i s) v ≡ after (drop (i + 1) s) (more v (get_or s i 0))
    unfolding after
    digit_at k l = rw (cons h, le-leb _ _ k, le-leb _ _ l)

    pub big-at : 48 ≤ get_or s i 0 → get_or s i 0 ≤ 57 → 2 ^ 64 ≤ more v (get_or s i 0) → after (drop i s) v ≡ None
    big-at k l b = digit_at k l ∙ too_big _ _ b

-- a sign, or none, as the library's test of a prefix tells it
module _ (b : ℕ) (s : List ℕ) where
  decimal_by : (t : Bool) → eqb b 43 ≡ t → decimal_of (b ∷ s) ≡ cond t (in_digits s) (in_digits (b ∷ s))
  unfolding decimal_of
  decimal_by true e = rw e refl
  decimal_by false e = rw e refl

pub decimal-signed : (s : List ℕ) → pointwise eqb (take 1 s) (43 ∷ []) ≡ true → in_digits (drop 1 s) ≡ decimal_of s
decimal-signed [] h = cc
decimal-signed (b ∷ s) h = sym (decimal_by b s true (sym (and-true (eqb b 43)) ∙ h))

pub decimal_unsigned : (s : List ℕ) → pointwise eqb (take 1 s) (43 ∷ []) ≡ false → in_digits s ≡ decimal_of s
unfolding decimal_of in_digits
decimal_unsigned [] h = refl
decimal_unsigned (b ∷ s) h = sym (decimal_by b s false (sym (and-true (eqb b 43)) ∙ h))
