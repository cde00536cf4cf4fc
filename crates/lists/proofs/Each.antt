-- Laws of `each` and `count`. Assumes nothing.
use mathlib.Core.Path.{◌≡◌, refl, sym, ap, ◌∙◌}
use mathlib.Core.Bool.{Bool, true, false, cond}
use mathlib.Core.List.{List, [], ◌∷◌, ◌++◌}
use Prim.Native.Nat.{ℕ, zero, suc, ◌+◌, ◌≤◌, ◌<◌}
use native.Mathlib.Nat.{add_assoc}
use native.Mathlib.Numerals.{add-one}
use native.Mathlib.Omega.{arith}
use lib.ListN.{length, get_or}
use Rattle.lists.specs.Lists.{each, count}

one_or-none : (b : Bool) → cond b 1 0 ≤ 1
one_or-none true = omega arith
one_or-none false = omega arith

module _ {A : Type 0} where
  pub length-each : (n : ℕ) (f : ℕ → A) → length (each n f) ≡ n
  length-each zero f = refl
  length-each (suc n) f = ap suc (length-each n (λ k. f (suc k)))

  pub getD-each : (n j : ℕ) (f : ℕ → A) (d : A) → j < n → get_or (each n f) j d ≡ f j
  getD-each zero j f d h = absurd (omega arith)
  getD-each (suc n) zero f d h = refl
  getD-each (suc n) (suc j) f d h = getD-each n j (λ k. f (suc k)) d (omega arith)

  -- one entry more, at the end
  each-suc : (n : ℕ) (f : ℕ → A) → each (suc n) f ≡ each n f ++ (f n ∷ [])
  each-suc zero f = refl
  each-suc (suc n) f = ap (λ (l : List A). f 0 ∷ l) (each-suc n (λ k. f (suc k)))

  pub each_more : (n : ℕ) (f : ℕ → A) → each (n + 1) f ≡ each n f ++ (f n ∷ [])
  each_more n f = rw add-one (each-suc n f)

  -- the entries decide the list
  pub each_same : (n : ℕ) (f g : ℕ → A) → ((k : ℕ) → k < n → f k ≡ g k) → each n f ≡ each n g
  each_same zero f g h = refl
  each_same (suc n) f g h =
      ap (λ (a : A). a ∷ each n (λ k. f (suc k))) (h 0 (omega arith))
      ∙ ap (λ (l : List A). g 0 ∷ l)
      (each_same n (λ k. f (suc k)) (λ k. g (suc k)) (λ k l. h (suc k) (omega arith)))

  pub count-append : (p : A → Bool) (xs ys : List A) → count p (xs ++ ys) ≡ count p xs + count p ys
  count-append p [] ys = omega arith
  count-append p (x ∷ xs) ys =
      rw (count-append p xs ys) (sym (add_assoc (cond (p x) 1 0) (count p xs) (count p ys)))

  pub count-le : (p : A → Bool) (xs : List A) → count p xs ≤ length xs
  count-le p [] = omega arith
  count-le p (x ∷ xs) = omega (arith, one_or-none (p x), count-le p xs)
