-- Laws of sets that are tables of a test. Assumes nothing.
--     size_none, size-some    a set of size 0 has nothing in it, and any other has something
--     some-none, some-some    the same of `some`
use mathlib.Core.Path.{◌≡◌, sym, ◌∙◌, ap}
use mathlib.Core.Logic.{⊎_elim}
use mathlib.Core.Bool.{Bool, true, false, cond, true≢false}
use Prim.Native.Nat.{ℕ, zero, suc, ◌<◌}
use native.Mathlib.Nat.{not-suc-le-zero}
use native.Mathlib.Omega.{arith}
use Rattle.lists.specs.Lists.{each}
use Rattle.flood.specs.Spread.{some, size}
use Rattle.flood.proofs.Sets.{true_or_false, some_in, some_out}

pub size_none : (n : ℕ) (p : ℕ → Bool) → size (each n p) ≡ 0 → (j : ℕ) → j < n → p j ≡ false
size_none zero p e j l = absurd (not-suc-le-zero l)
size_none (suc n) p e zero l =
    ⊎_elim
    (λ t. let one : ◌≡◌ {A = ℕ} (cond (p 0) 1 0) 1 = ap (λ (b : Bool). cond b 1 0) t in absurd (omega arith))
    (λ f. f)
    (true_or_false (p 0))
size_none (suc n) p e (suc j) l =
    size_none n (λ k. p (suc k)) (omega (arith, e)) j (omega arith)

pub size-some : (n : ℕ) (p : ℕ → Bool) → 0 < size (each n p) → (j : ℕ) × (j < n) × (p j ≡ true)
size-some zero p l = absurd (omega arith)
size-some (suc n) p l =
    ⊎_elim
    (λ t. (0, omega arith, t))
    (λ f.
    let none : ◌≡◌ {A = ℕ} (cond (p 0) 1 0) 0 = ap (λ (b : Bool). cond b 1 0) f in
    let r = size-some n (λ k. p (suc k)) (omega arith) in
    (suc r.0, omega (arith, r.1), r.2))
    (true_or_false (p 0))

module _ (n : ℕ) (p : ℕ → Bool) where
  pub some-none : size (each n p) ≡ 0 → some p n ≡ false
  some-none e =
      ⊎_elim
      (λ t. let r = some_out p n t in
      absurd (true≢false (sym r.2 ∙ size_none n p e r.0 r.1)))
      (λ f. f)
      (true_or_false (some p n))

  pub some-some : 0 < size (each n p) → some p n ≡ true
  some-some l = let r = size-some n p l in some_in p n r.0 r.1 r.2
