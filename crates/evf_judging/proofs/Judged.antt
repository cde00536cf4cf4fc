-- Tests of places and sizes, by what is known of them. Assumes nothing.
use Prim.Native.Nat.{ℕ, zero, suc, ◌+◌, ◌-◌, ◌*◌, ◌^◌, ◌≤◌, ◌<◌}
use mathlib.Core.Path.{◌≡◌, refl, sym, ap, ◌∙◌}
use mathlib.Core.Bool.{Bool, true, false, ◌||◌, or-true}
use native.Mathlib.Nat.{mul-le-mul}
use native.Mathlib.Numerals.{add-one}
use native.Mathlib.Omega.{arith}
use lib.Dec.{ltb}
use borrow.Author.Tests.{lt-ltb, le-ltb, ltb-true, ltb-false}
use Rattle.evf_judging.specs.Refusals.{any_below}

-- what is left of the bytes behind a start
pub past_rest : (bytes start len : ℕ) → start ≤ bytes → ltb (bytes - start) len ≡ ltb bytes (start + len)
past_rest bytes start len h =
    (elim (ltb (bytes - start) len) as (λ t. ltb (bytes - start) len ≡ t → t ≡ ltb bytes (start + len)) [
      | true ↦ λ e. sym (lt-ltb bytes (start + len) (omega (arith, ltb-true (bytes - start) len e)))
      | false ↦ λ e. sym (le-ltb bytes (start + len) (omega (arith, ltb-false (bytes - start) len e)))
    ])
    refl

-- one that is found, and one more that is not
pub any_found : (n i : ℕ) (test : ℕ → Bool) → i < n → test i ≡ true → any_below n test ≡ true
any_found zero i test l e = absurd (omega arith)
any_found (suc n) i test l e =
    (elim (ltb i n) as (λ t. ltb i n ≡ t → (any_below n test || test n) ≡ true) [
      | true ↦ λ q. ap (λ (b : Bool). b || test n) (any_found n i test (ltb-true i n q) e)
      | false ↦ λ q. let same : i ≡ n = omega (arith, ltb-false i n q) in
          ap (λ (k : ℕ). any_below n test || test k) (sym same) ∙ ap (λ (b : Bool). any_below n test || b) e
          ∙ or-true (any_below n test)
    ])
    refl

pub none_more : (i : ℕ) (test : ℕ → Bool) → any_below i test ≡ false → test i ≡ false
    → any_below (i + 1) test ≡ false
none_more i test p q =
    ap (λ (k : ℕ). any_below k test) (add-one i) ∙ ap (λ (b : Bool). b || test i) p ∙ q

pub product_fits : (a b : ℕ) → a < 256 → b < 256 → a * b < 2 ^ 64
product_fits a b l m =
    let c : a ≤ 255 = omega arith in
    let d : b ≤ 255 = omega arith in
    let e : a * b ≤ 255 * 255 = mul-le-mul c d in
    omega arith
