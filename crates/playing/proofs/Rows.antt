-- A row passed entry by entry, with lent cells beside. Assumes nothing.
--     row-next    an entry more: from behind it the row comes to the same
--     row-over    behind the last entry it is what all comes to
use Rattle.std.proofs.Common.{◌≡◌, ℕ, ◌+◌, ◌<◌, ◌≤◌, List, length, get_or, drop, sym, ap, ◌∙◌, add-one, drop-cons}
use Rattle.std.proofs.lemmas.List.{drop_all}
use mathlib.Core.List.{foldl}

module _ {A C E : Type 0} (f : A × C → E → A × C) (row : List E) {all : A × C} where
  pub row-next : (i : ℕ) (d : E) {a a' : A} {c c' : C} → i < length row
      → (a' ≡ (f (a, c) (get_or row i d)).0) × (c' ≡ (f (a, c) (get_or row i d)).1)
      → foldl f (a, c) (drop i row) ≡ all → foldl f (a', c') (drop (i + 1) row) ≡ all
  row-next i d {a} {a'} {c} {c'} l e w =
      let both : ◌≡◌ {A = A × C} (a', c') (f (a, c) (get_or row i d)) =
      ap (λ (x : A). (x, c')) e.0 ∙ ap (λ (y : C). ((f (a, c) (get_or row i d)).0, y)) e.1 in
      rw (both, add-one i) (sym (ap (foldl f (a, c)) (drop-cons row i d l)) ∙ w)

  pub row-over : (i : ℕ) {s : A × C} → length row ≤ i → foldl f s (drop i row) ≡ all → s ≡ all
  row-over i {s} l w = sym (ap (foldl f s) (drop_all i row l)) ∙ w
