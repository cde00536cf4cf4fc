-- Counting strings one by one. Assumes nothing.
use Prim.Native.Nat.{ℕ, ◌+◌, ◌≤◌}
use mathlib.Core.Path.{◌≡◌, refl}
use mathlib.Core.Bool.{Bool, true, false, cond}
use mathlib.Core.List.{[], ◌∷◌}
use native.Mathlib.Omega.{arith}
use lib.Dec.{ltb}
use borrow.Author.Tests.{ltb-false}
use Rattle.lists.specs.Lists.{each}
use Rattle.lists.proofs.Each.{length-each, each_more, count-append, count-le}
use Rattle.text.specs.Utf8.{utf8}
use Rattle.utf8_cases.specs.Strings.{string, passing, shortened}

module _ (n : ℕ) where
  abbrev ok : ℕ → Bool
  ok k = utf8 (string n k)

  pub none_yet : passing n 0 ≡ 0
  unfolding passing
  none_yet = refl

  one_more : (k : ℕ) (t : Bool) → t ≡ utf8 (string n k) → passing n (k + 1) ≡ passing n k + cond t 1 0
  unfolding passing
  one_more k t e =
      rw (each_more k (λ i. i), count-append ok (each k (λ i. i)) (k ∷ []), e) (omega arith)

  module _ (k : ℕ) (t : Bool) (e : t ≡ utf8 (string n k)) where
    pub one_passes : t ≡ true → passing n (k + 1) ≡ passing n k + 1
    one_passes y = rw y at (one_more k t e)

    pub none_passes : t ≡ false → passing n (k + 1) ≡ passing n k
    none_passes y = omega (arith, rw y at (one_more k t e))

  pub few : (k : ℕ) → passing n k ≤ k
  unfolding passing
  few k = omega (arith, count-le ok (each k (λ i. i)), length-each k (λ i. i))

pub short : (n : ℕ) → shortened n ≤ 3
short n =
    (elim (ltb 3 n) as (λ t. ltb 3 n ≡ t → cond t 3 n ≤ 3) [
      | true ↦ λ _. omega arith
      | false ↦ λ e. ltb-false 3 n e
    ])
    refl
