-- The test of UTF-8 goes from one character to the next. Assumes nothing.
use Prim.Native.Nat.{ℕ, zero, suc, ◌≤◌, ◌<◌}
use mathlib.Core.Path.{◌≡◌, refl, sym, ◌∙◌}
use mathlib.Core.Bool.{true, false, and-eq-true_iff, false≢true}
use mathlib.Core.List.{List, [], ◌∷◌}
use native.Mathlib.Omega.{arith}
use lib.ListN.{length, drop}
use Rattle.text.specs.Utf8.{Range, within, grammar, Left, rest, wrong, first, byte, from, utf8}
use Rattle.text.specs.Chars.{begins, char_len, some_len}
use Rattle.std.specs.Prelude.{Some, None}
use Rattle.std.proofs.lemmas.Option.{none-some, same_Some}
use Rattle.text.proofs.Leads.{len_with, spelled_first}

begins_fits : (rs : List Range) (l : List ℕ) → begins rs l ≡ true → length rs ≤ length l
begins_fits [] l h = omega arith
begins_fits (r ∷ rs) [] h = absurd (false≢true h)
begins_fits (r ∷ rs) (b ∷ l) h =
    omega (arith, begins_fits rs l ((and-eq-true_iff (within r b) (begins rs l)).0 h).1)

pub wrong_from : (l : List ℕ) → from l wrong ≡ false
wrong_from [] = refl
wrong_from (b ∷ l) = wrong_from l

begins-from : (rs : List Range) (l : List ℕ) → begins rs l ≡ true
    → from l (rest rs) ≡ from (drop (length rs) l) (rest [])
unfolding byte
begins-from [] l h = refl
begins-from (r ∷ rs) [] h = absurd (false≢true h)
begins-from (r ∷ rs) (b ∷ l) h =
    let p = (and-eq-true_iff (within r b) (begins rs l)).0 h in
    rw p.0 (begins-from rs l p.1)

stops_from : (rs : List Range) (l : List ℕ) → begins rs l ≡ false → from l (rest rs) ≡ false
unfolding byte
stops_from [] l h = absurd (false≢true (sym h))
stops_from (r ∷ rs) [] h = refl
stops_from (r ∷ rs) (b ∷ l) h =
    (elim (within r b) as (λ t. within r b ≡ t → from (b ∷ l) (rest (r ∷ rs)) ≡ false) [
      | true ↦ λ e. rw e (stops_from rs l (rw e at h))
      | false ↦ λ e. rw e (wrong_from l)
    ])
    refl

module _ (l : List ℕ) where
  left-more : (x : Left) (n : ℕ) → len_with x l ≡ suc n → from l x ≡ from (drop n l) (rest [])
  left-more wrong n h = absurd (omega arith)
  left-more (rest rs) n h =
      (elim (begins rs l) as (λ t. begins rs l ≡ t → from l (rest rs) ≡ from (drop n l) (rest [])) [
        | true ↦ λ e. let m : length rs ≡ n = omega (arith, rw e at h) in rw (← m) (begins-from rs l e)
        | false ↦ λ e. absurd (omega (arith, rw e at h))
      ])
      refl

  left_none : (x : Left) → len_with x l ≡ 0 → from l x ≡ false
  left_none wrong h = wrong_from l
  left_none (rest rs) h =
      (elim (begins rs l) as (λ t. begins rs l ≡ t → from l (rest rs) ≡ false) [
        | true ↦ λ e. absurd (omega (arith, rw e at h))
        | false ↦ λ e. stops_from rs l e
      ])
      refl

  left-fits : (x : Left) → len_with x l ≤ suc (length l)
  left-fits wrong = omega arith
  left-fits (rest rs) =
      (elim (begins rs l) as (λ t. begins rs l ≡ t → len_with (rest rs) l ≤ suc (length l)) [
        | true ↦ λ e. rw e (omega (arith, begins_fits rs l e))
        | false ↦ λ e. rw e (omega arith)
      ])
      refl

module _ (b : ℕ) (l : List ℕ) (n : ℕ) (e : char_len (b ∷ l) ≡ n) where
  len_is : len_with (first grammar b) l ≡ n
  len_is = sym (spelled_first b l) ∙ e

  char-none : n ≡ 0 → utf8 (b ∷ l) ≡ false
  unfolding utf8 byte
  char-none z = left_none l (first grammar b) (len_is ∙ z)

  char-fits : n ≤ suc (length l)
  char-fits = rw (← len_is) (left-fits l (first grammar b))

pub char_more : (b : ℕ) (l : List ℕ) (n : ℕ) → char_len (b ∷ l) ≡ n → 0 < n
    → utf8 (b ∷ l) ≡ utf8 (drop n (b ∷ l))
unfolding utf8 byte
char_more b l zero e h = absurd (omega arith)
char_more b l (suc n) e h = left-more l (first grammar b) n (len_is b l (suc n) e)

-- WHAT AN ANSWER SAYS, OF A TEXT THAT IS NOT EMPTY

pub none_is : (n : ℕ) → None ≡ some_len n → n ≡ 0
none_is zero e = refl
none_is (suc n) e = absurd (none-some (suc n) e)

pub some_is : (n m : ℕ) → Some n ≡ some_len m → (m ≡ n) × (0 < n)
some_is n zero e = absurd (none-some n (sym e))
some_is n (suc m) e = let z : n ≡ suc m = same_Some n (suc m) e in (sym z, omega (arith, z))

pub told_none : (s : List ℕ) → 0 < length s → None ≡ some_len (char_len s) → utf8 s ≡ false
told_none [] i e = absurd (omega (arith, i))
told_none (b ∷ l) i e = char-none b l (char_len (b ∷ l)) refl (none_is _ e)

pub told_some : (s : List ℕ) (n : ℕ) → 0 < length s → Some n ≡ some_len (char_len s)
    → (0 < n) × (n ≤ length s) × (utf8 s ≡ utf8 (drop n s))
told_some [] n i e = absurd (omega (arith, i))
told_some (b ∷ l) n i e =
    let w = some_is n (char_len (b ∷ l)) e in
    (w.1, char-fits b l n w.0, char_more b l n w.0 w.1)

pub end_is : (s : List ℕ) → length s ≡ 0 → utf8 s ≡ true
unfolding utf8
end_is [] h = refl
end_is (b ∷ l) h = absurd (omega (arith, h))
