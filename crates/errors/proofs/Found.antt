-- What is found in the table by a number stands at the number's place. Assumes nothing.
--     place-first, place-later, place_end   a place looked for entry by entry
--     known, other                          the words of a number whose place is in the table, or is not
use Prim.Native.Nat.{ℕ, ◌+◌, ◌≤◌, ◌<◌}
use mathlib.Core.Path.{◌≡◌, refl, sym, ap, ◌∙◌}
use mathlib.Core.Bool.{true, false}
use mathlib.Core.List.{List, [], ◌∷◌}
use native.Mathlib.Numerals.{add-one}
use native.Mathlib.Omega.{arith}
use lib.Dec.{eqb}
use lib.ListN.{length, get_or, drop, drop_of_length-le}
use lib.Seq.{drop-cons}
use borrow.Author.Tests.{eq-eqb, ne_eqb, eqb-true, eqb-false}
use Rattle.errors.specs.Errors.{Error, table, other_words, among_of, error_words}
use Rattle.errors.specs.Places.{numbers_of, texts_of, place_in, place_of, text_at_place}

module _ (s : List ℕ) (i n : ℕ) where
  pub place-first : i < length s → get_or s i 0 ≡ n → place_in (drop i s) n ≡ 0
  unfolding place_in
  place-first h e = rw (drop-cons s i 0 h) (simp (eq-eqb _ _ e))

  pub place-later : i < length s → (get_or s i 0 ≡ n → ⊥)
      → i + place_in (drop i s) n ≡ i + 1 + place_in (drop (i + 1) s) n
  unfolding place_in
  place-later h e = rw (drop-cons s i 0 h) (simp (ne_eqb _ _ e) (rw add-one (omega arith)))

  pub place_end : length s ≤ i → place_in (drop i s) n ≡ 0
  unfolding place_in
  place_end h = rw (drop_of_length-le s h)

-- a number whose place is within the table
among_known : (l : List Error) (n : ℕ) → place_in (numbers_of l) n < length l
    → get_or (texts_of l) (place_in (numbers_of l) n) [] ≡ among_of l n
unfolding place_in
among_known [] n h = absurd (omega arith)
among_known (e ∷ l) n h =
    (elim (eqb e.number n) as
    (λ t. eqb e.number n ≡ t
    → get_or (texts_of (e ∷ l)) (place_in (numbers_of (e ∷ l)) n) [] ≡ among_of (e ∷ l) n) [
      | true ↦ λ q. rw (q, eq-eqb n e.number (sym (eqb-true e.number n q)))
      | false ↦ λ q. rw (q, ne_eqb n e.number (λ s. eqb-false e.number n q (sym s)))
          (among_known l n (omega (arith, rw q at h)))
    ])
    refl

among_other : (l : List Error) (n : ℕ) → length l ≤ place_in (numbers_of l) n → other_words n ≡ among_of l n
unfolding place_in
among_other [] n h = refl
among_other (e ∷ l) n h =
    (elim (eqb e.number n) as (λ t. eqb e.number n ≡ t → other_words n ≡ among_of (e ∷ l) n) [
      | true ↦ λ q. absurd (omega (arith, rw q at h))
      | false ↦ λ q. rw (ne_eqb n e.number (λ s. eqb-false e.number n q (sym s)))
          (among_other l n (omega (arith, rw q at h)))
    ])
    refl

-- the table has 19 errors
pub known : (n : ℕ) {k : ℕ} → k ≡ place_of n → k < 19 → text_at_place k ≡ error_words n
unfolding place_of table text_at_place error_words
known n {k} e h = ap text_at_place e ∙ among_known table n (rw e at h)

pub other : (n : ℕ) {k : ℕ} → k ≡ place_of n → 19 ≤ k → other_words n ≡ error_words n
unfolding place_of table error_words
other n {k} e h = among_other table n (rw e at h)
