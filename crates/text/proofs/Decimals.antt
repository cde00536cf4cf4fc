-- A u64 written in decimal:
--     decimal-back                                                 it is read back as itself
--     digits_only, decimal_no_zero, decimal_ascii, decimal_utf8 its bytes are digits: none is 00, all are
--     below 128, they are UTF-8
--     one_or-more, twenty_at-most                                  how many there are
--     no-zero-in-front                                             the first is 0 for 0 alone
-- Assumes nothing.
use Prim.Native.Nat.{ℕ, zero, suc, ◌+◌, ◌*◌, ◌/◌, ◌%◌, ◌^◌, ◌≤◌, ◌<◌}
use mathlib.Core.Path.{◌≡◌, refl, sym, ap, ◌∙◌}
use mathlib.Core.Bool.{true, false, cond, not, and-eq-true_iff}
use mathlib.Core.List.{List, [], ◌∷◌, ◌++◌, foldl-append}
use native.Mathlib.Nat.{pow-succ', lt_trans}
use native.Mathlib.Omega.{arith}
use lib.Dec.{leb, ltb, ltb→lt}
use lib.ListN.{length, get_or, length-append, get_or-append}
use borrow.Author.Tests.{lt-ltb, le-leb, leb-true, ltb-true, ltb-false, ne_eqb}
use Rattle.text.specs.Bytes.{all, non_zero, NoZero, is_ascii}
use Rattle.text.specs.Utf8.{utf8}
use Rattle.text.specs.Decimals.{is_digit, more, value, without_plus, in_digits, decimal_of, digits_of}
use Rattle.text.specs.Decimals.{decimal_bytes}
use Rattle.std.specs.Prelude.{Some}
use Rattle.text.proofs.Bytes.{all_append, all_weaken, all_head}
use Rattle.text.proofs.Octets.{ascii}

-- DIGITS

module _ (b : ℕ) (h : is_digit b ≡ true) where
  digit_low : 48 ≤ b
  digit_low = leb-true 48 b ((and-eq-true_iff (leb 48 b) (leb b 57)).0 h).0

  digit-high : b ≤ 57
  digit-high = leb-true b 57 ((and-eq-true_iff (leb 48 b) (leb b 57)).0 h).1

  digit-not-zero : non_zero b ≡ true
  digit-not-zero = ap not (ne_eqb b 0 (λ e. omega (arith, digit_low)))

  digit-ascii : is_ascii b ≡ true
  digit-ascii = lt-ltb b 128 (omega (arith, digit-high))

last_digit : (n : ℕ) → is_digit (48 + n % 10) ≡ true
last_digit n =
    let l : 48 ≤ 48 + n % 10 = omega arith in
    let h : 48 + n % 10 ≤ 57 = omega arith in
    rw (le-leb _ _ l, le-leb _ _ h)

-- the digits before the last
abbrev before : ℕ → ℕ → List ℕ
before k n = cond (ltb n 10) [] (digits_of k (n / 10))

-- what holds of no digits and of the digits of a tenth holds of the digits before the last
by_size : (P : List ℕ → Type 0) (k n : ℕ) → (n < 10 → P []) → (10 ≤ n → P (digits_of k (n / 10)))
    → P (before k n)
by_size P k n small large =
    (elim (ltb n 10) as (λ t. ltb n 10 ≡ t → P (before k n)) [
      | true ↦ λ e. rw e (small (ltb-true n 10 e))
      | false ↦ λ e. rw e (large (ltb-false n 10 e))
    ])
    refl

all_digits : (k n : ℕ) → all is_digit (digits_of k n) ≡ true
all_digits zero n = refl
all_digits (suc k) n =
    all_append is_digit (before k n) ((48 + n % 10) ∷ [])
    (by_size (λ l. all is_digit l ≡ true) k n (λ _. refl) (λ _. all_digits k (n / 10)))
    (rw (last_digit n))

at_most : (k n : ℕ) → length (digits_of k n) ≤ k
at_most zero n = omega arith
at_most (suc k) n =
    simp length-append
    (omega (arith, by_size (λ l. length l ≤ k) k n (λ _. omega arith) (λ _. at_most k (n / 10))))

tenth : (k n : ℕ) → n < 10 ^ suc k → n / 10 < 10 ^ k
tenth k n h = let g : n < 10 * 10 ^ k = rw (pow-succ' 10 k) at h in omega arith

value_back : (k n : ℕ) → n < 10 ^ k → value (digits_of k n) ≡ n
value_back zero n h = omega arith
value_back (suc k) n h =
    foldl-append more 0 (before k n) ((48 + n % 10) ∷ [])
    ∙ by_size (λ l. more (value l) (48 + n % 10) ≡ n) k n (λ l. omega arith)
    (λ l. omega (arith, value_back k (n / 10) (tenth k n h)))

some : (k n : ℕ) → 0 < length (digits_of (suc k) n)
some k n = simp length-append (omega arith)

front : (k n : ℕ) → n < 10 ^ suc k → get_or (digits_of (suc k) n) 0 0 ≡ 48 → n ≡ 0
front zero n h = by_size (λ l. get_or (l ++ ((48 + n % 10) ∷ [])) 0 0 ≡ 48 → n ≡ 0) zero n (λ l e. omega arith)
    (λ l. absurd (omega arith))
front (suc k) n h =
    by_size (λ l. get_or (l ++ ((48 + n % 10) ∷ [])) 0 0 ≡ 48 → n ≡ 0) (suc k) n (λ l e. omega arith)
    (λ l e.
    let z : n / 10 ≡ 0 =
    front k (n / 10) (tenth (suc k) n h)
    (sym (get_or-append (digits_of (suc k) (n / 10)) ((48 + n % 10) ∷ []) 0 0 (some k (n / 10))) ∙ e) in
    omega arith)

no_plus : (l : List ℕ) → all is_digit l ≡ true → without_plus l ≡ l
no_plus [] h = refl
no_plus (b ∷ l) h = rw (ne_eqb b 43 (λ e. omega (arith, digit_low b (all_head is_digit b l h))))

digits_read : (l : List ℕ) → 0 < length l → all is_digit l ≡ true → value l < 2 ^ 64
    → in_digits l ≡ Some (value l)
unfolding in_digits
digits_read l h d v = rw (lt-ltb _ _ h, d, lt-ltb _ _ v)

-- THE LAWS

pub digits_only : (n : ℕ) → all is_digit (decimal_bytes n) ≡ true
unfolding decimal_bytes
digits_only n = all_digits 20 n

pub decimal_no_zero : (n : ℕ) → NoZero (decimal_bytes n)
decimal_no_zero n = all_weaken is_digit non_zero digit-not-zero (decimal_bytes n) (digits_only n)

pub decimal_ascii : (n : ℕ) → all is_ascii (decimal_bytes n) ≡ true
decimal_ascii n = all_weaken is_digit is_ascii digit-ascii (decimal_bytes n) (digits_only n)

pub decimal_utf8 : (n : ℕ) → utf8 (decimal_bytes n) ≡ true
decimal_utf8 n = ascii (decimal_bytes n) (decimal_ascii n)

pub one_or-more : (n : ℕ) → 0 < length (decimal_bytes n)
unfolding decimal_bytes
one_or-more n = some 19 n

pub twenty_at-most : (n : ℕ) → length (decimal_bytes n) ≤ 20
unfolding decimal_bytes
twenty_at-most n = at_most 20 n

module _ (n : ℕ) (h : n < 2 ^ 64) where
  fits : n < 10 ^ 20
  fits = lt_trans h (ltb→lt (2 ^ 64) (10 ^ 20) tt)

  value-is : value (decimal_bytes n) ≡ n
  unfolding decimal_bytes
  value-is = value_back 20 n fits

  pub decimal-back : decimal_of (decimal_bytes n) ≡ Some n
  unfolding decimal_of
  decimal-back =
      let v : value (decimal_bytes n) < 2 ^ 64 = rw value-is h in
      ap in_digits (no_plus (decimal_bytes n) (digits_only n))
      ∙ digits_read (decimal_bytes n) (one_or-more n) (digits_only n) v
      ∙ ap Some value-is

  pub no-zero-in-front : get_or (decimal_bytes n) 0 0 ≡ 48 → n ≡ 0
  unfolding decimal_bytes
  no-zero-in-front e = front 19 n fits e
