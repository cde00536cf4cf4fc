-- Laws of `all`. Assumes nothing.
use Prim.Native.Nat.{ℕ}
use mathlib.Core.Path.{◌≡◌, refl}
use mathlib.Core.Bool.{Bool, true, and-eq-true_iff}
use mathlib.Core.List.{List, [], ◌∷◌, ◌++◌}
use Rattle.text.specs.Bytes.{all}

module _ (p : ℕ → Bool) (b : ℕ) (l : List ℕ) where
  pub all_head : all p (b ∷ l) ≡ true → p b ≡ true
  all_head h = ((and-eq-true_iff (p b) (all p l)).0 h).0

  pub all_tail : all p (b ∷ l) ≡ true → all p l ≡ true
  all_tail h = ((and-eq-true_iff (p b) (all p l)).0 h).1

  pub all_cons : p b ≡ true → all p l ≡ true → all p (b ∷ l) ≡ true
  all_cons h t = (and-eq-true_iff (p b) (all p l)).1 (h, t)

pub all_append : (p : ℕ → Bool) (l r : List ℕ) → all p l ≡ true → all p r ≡ true → all p (l ++ r) ≡ true
all_append p [] r h t = t
all_append p (b ∷ l) r h t = all_cons p b (l ++ r) (all_head p b l h) (all_append p l r (all_tail p b l h) t)

-- a weaker test passes too
pub all_weaken : (p q : ℕ → Bool) → ((b : ℕ) → p b ≡ true → q b ≡ true) → (l : List ℕ) → all p l ≡ true
    → all q l ≡ true
all_weaken p q w [] h = refl
all_weaken p q w (b ∷ l) h = all_cons q b l (w b (all_head p b l h)) (all_weaken p q w l (all_tail p b l h))
