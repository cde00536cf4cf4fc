-- Writing a decimal number: its digits counted from the number down, and stored from the last to the first.
-- Assumes nothing.
use Prim.Native.Nat.{ℕ, zero, suc, ◌+◌, ◌-◌, ◌*◌, ◌/◌, ◌%◌, ◌^◌, ◌<◌, ◌≤◌}
use mathlib.Core.Path.{◌≡◌, refl, sym, ap, ◌∙◌}
use mathlib.Core.Bool.{true, false, cond}
use mathlib.Core.List.{List, [], ◌∷◌, ◌++◌}
use native.Mathlib.Nat.{pow-succ', lt_trans}
use native.Mathlib.Omega.{arith}
use lib.Dec.{ltb, ltb→lt}
use lib.ListN.{length, get_or, take, drop, set, length-append}
use lib.Seq.{sets, take-suc, drop-cons, take-length, drop-length, length-take-le}
use borrow.Author.Tests.{lt-ltb, le-ltb}
use Rattle.lists.proofs.Stores.{sets-before}
use Rattle.text.specs.Decimals.{digits_of, decimal_bytes}

module _ (k n : ℕ) where
  pub one-digit : n < 10 → digits_of (suc k) n ≡ (48 + n % 10) ∷ []
  one-digit h = rw (lt-ltb _ _ h)

  pub more-digits : 10 ≤ n → digits_of (suc k) n ≡ digits_of k (n / 10) ++ ((48 + n % 10) ∷ [])
  more-digits h = rw (le-ltb _ _ h)

-- COUNTED

-- the digits of n are `len`, less one, and those of `rest`, of which there are at most one and `left`
pub record Counted (n len rest : ℕ) : Type 0 where
  pub left : ℕ
  pub bound : len + left ≡ 20
  pub fits : rest < 10 ^ suc left
  pub count : length (decimal_bytes n) + 1 ≡ len + length (digits_of (suc left) rest)

pub count-starts : (n : ℕ) → n < 2 ^ 64 → Counted n 1 n
unfolding decimal_bytes
count-starts n h =
    record {
      left = 19;
      bound = omega arith;
      fits = lt_trans h (ltb→lt (2 ^ 64) (10 ^ 20) tt);
      count = omega arith;
    }

count-more : (n len rest k : ℕ) → len + k ≡ 20 → rest < 10 ^ suc k
    → length (decimal_bytes n) + 1 ≡ len + length (digits_of (suc k) rest)
    → 10 ≤ rest → Counted n (len + 1) (rest / 10)
count-more n len rest zero e f c h = absurd (omega arith)
count-more n len rest (suc k) e f c h =
    let g : rest < 10 * 10 ^ suc k = rw (pow-succ' 10 (suc k)) at f in
    let l : length (digits_of (suc (suc k)) rest) ≡ length (digits_of (suc k) (rest / 10)) + 1 =
    ap length (more-digits (suc k) rest h) ∙ length-append (digits_of (suc k) (rest / 10))
    ((48 + rest % 10) ∷ []) in
    record { left = k; bound = omega arith; fits = omega arith; count = omega arith }

pub count_goes_on : {n len rest : ℕ} → Counted n len rest → 10 ≤ rest → Counted n (len + 1) (rest / 10)
count_goes_on {n} {len} {rest} w h = count-more n len rest w.left w.bound w.fits w.count h

pub count_ends : {n len rest : ℕ} → Counted n len rest → rest < 10 → len ≡ length (decimal_bytes n)
count_ends {n} {len} {rest} w h = omega (arith, w.count, ap length (one-digit w.left rest h))

-- STORED

-- what stands before place i of the digits are those of `rest`
pub record Front (digits : List ℕ) (i rest : ℕ) : Type 0 where
  pub left : ℕ
  pub is : take i digits ≡ digits_of (suc left) rest

-- the digits of n from place i on are stored, and those before are of `rest`
pub record Stored (d out : List ℕ) (at n i rest : ℕ) : Type 0 where
  pub inside : i ≤ length (decimal_bytes n)
  pub stores : out ≡ sets d (at + i) (drop i (decimal_bytes n))
  pub front : 0 < i → Front (decimal_bytes n) i rest

pub store_starts : (d : List ℕ) (at n i : ℕ) → i ≡ length (decimal_bytes n) → Stored d d at n i n
unfolding decimal_bytes
store_starts d at n i e =
    record {
      inside = omega arith;
      stores = rw (e, drop-length (digits_of 20 n));
      front = λ _. record { left = 19; is = rw (e, take-length (digits_of 20 n)) };
    }

pub store_ends : {d out : List ℕ} {at n i rest : ℕ} → Stored d out at n i rest → i ≡ 0
    → out ≡ sets d at (decimal_bytes n)
store_ends {d} {out} {at} {n} {i} {rest} w e =
    let z : at + 0 ≡ at = omega arith in
    w.stores ∙ rw (e, z)

-- two lists with one more entry at the end
snoc_same : (p q : List ℕ) (x y : ℕ) → p ++ (x ∷ []) ≡ q ++ (y ∷ []) → (p ≡ q) × (x ≡ y)
snoc_same [] [] x y e = (refl, cc)
snoc_same [] (b ∷ q) x y e = absurd (omega (arith, simp length-append at (ap length e)))
snoc_same (a ∷ p) [] x y e = absurd (omega (arith, simp length-append at (ap length e)))
snoc_same (a ∷ p) (b ∷ q) x y e =
    let t : p ++ (x ∷ []) ≡ q ++ (y ∷ []) = cc in
    let r = snoc_same p q x y t in
    let f : p ≡ q = r.0 in
    (cc, r.1)

module _ (digits : List ℕ) (j rest : ℕ) (h : j < length digits) where
  split : (k : ℕ) → take (suc j) digits ≡ digits_of (suc k) rest
      → (take j digits ≡ cond (ltb rest 10) [] (digits_of k (rest / 10))) × (get_or digits j 0 ≡ 48 + rest % 10)
  split k e = snoc_same (take j digits) _ _ _ (sym (take-suc digits j 0 h) ∙ e)

  -- there are digits before the last, so the number has two or more
  front_of : (k : ℕ) (p : List ℕ) → take j digits ≡ p → p ≡ digits_of k (rest / 10) → 0 < j
      → Front digits j (rest / 10)
  front_of zero p e f l =
      let z : length p ≡ 0 = ap length f in
      absurd (omega (arith, length-take-le j digits (omega arith), ap length e))
  front_of (suc k) p e f l = record { left = k; is = e ∙ f }

  pub front-next : Front digits (suc j) rest → 0 < j → Front digits j (rest / 10)
  front-next w l =
      let s = split w.left w.is in
      (elim (ltb rest 10) as (λ t. ltb rest 10 ≡ t → Front digits j (rest / 10)) [
        | true ↦ λ q. absurd
            (omega (arith, length-take-le j digits (omega arith), rw q at (ap length s.0)))
        | false ↦ λ q. front_of w.left _ s.0 (rw q) l
      ])
      refl

  pub front-last : Front digits (suc j) rest → get_or digits j 0 ≡ 48 + rest % 10
  front-last w = (split w.left w.is).1

store_down : (d out : List ℕ) (at n j rest : ℕ) → Stored d out at n (suc j) rest
    → Stored d (set out (at + j) (48 + rest % 10)) at n j (rest / 10)
store_down d out at n j rest w =
    let h : j < length (decimal_bytes n) = omega (arith, w.inside) in
    let f = w.front (omega arith) in
    let e : at + suc j ≡ suc (at + j) = omega arith in
    record {
      inside = omega arith;
      stores =
          rw (w.stores, e, drop-cons (decimal_bytes n) j 0 h, front-last (decimal_bytes n) j rest h f)
          (sets-before d (at + j) (48 + rest % 10) (drop (suc j) (decimal_bytes n)));
      front = front-next (decimal_bytes n) j rest h f;
    }

pub store_goes_on : {d out : List ℕ} {at n i rest : ℕ} → Stored d out at n i rest → 0 < i
    → Stored d (set out (at + (i - 1)) (48 + rest % 10)) at n (i - 1) (rest / 10)
store_goes_on {i = zero} w h = absurd (omega arith)
store_goes_on {d} {out} {at} {n} {i = suc j} {rest} w h = let e : suc j - 1 ≡ j = omega arith in
    rw e (store_down d out at n j rest w)
