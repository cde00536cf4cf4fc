-- A line gathered piece by piece in a buffer: what stands there is the line's start, and it is known whether
-- the line was longer. Assumes nothing.
--     Stands         the buffer has the start of a line
--     stands_none    where the line begins
--     stands-more    a piece more
--     told_in        the name in the buffer is the line as it is told
use Prim.Native.Nat.{ℕ, zero, suc, ◌+◌, ◌-◌, ◌<◌, ◌≤◌, min}
use mathlib.Core.Path.{◌≡◌, refl, ap, sym, ◌∙◌}
use mathlib.Core.Bool.{true, false, ◌||◌}
use mathlib.Core.List.{List, [], ◌∷◌, ◌++◌, map}
use native.Mathlib.Omega.{arith}
use lib.Dec.{ltb}
use lib.ListN.{length, take, set, length-append}
use lib.Seq.{sets, length-sets, take-nil}
use borrow.Author.Tests.{lt-ltb, le-ltb, ltb-true, ltb-false, eq-eqb, ne_eqb}
use Rattle.name_lines.specs.declared.Gathered.{Gathered}
use Rattle.name_lines.specs.NameLines.{not_empty, told_name}
use Rattle.name_lines.specs.Steps.{gather_more, nothing, name_in}

-- LISTS
sets_cons : (x : ℕ) (d : List ℕ) (i : ℕ) (p : List ℕ) → sets (x ∷ d) (suc i) p ≡ x ∷ sets d i p
sets_cons x d i [] = refl
sets_cons x d i (y ∷ p) = sets_cons x (set d i y) (suc i) p

front_cut : (d p : List ℕ) → take (min (length d) (length p)) (sets d 0 p) ≡ take (length d) p
front_cut [] p = let e : min 0 (length p) ≡ 0 = omega arith in rw e
front_cut (x ∷ d) [] = let e : min (suc (length d)) 0 ≡ 0 = omega arith in rw e
front_cut (x ∷ d) (y ∷ p) =
    let e : min (suc (length d)) (suc (length p)) ≡ suc (min (length d) (length p)) = omega arith in
    rw (e, sets_cons y d 0 p) (ap (λ (l : List ℕ). y ∷ l) (front_cut d p))

-- a run of stores from i on, up to the end of the buffer
stored_cut : (d : List ℕ) (i : ℕ) (p : List ℕ) → i ≤ length d
    → take (min (length d) (i + length p)) (sets d i p) ≡ take i d ++ take (length d - i) p
stored_cut d zero p h =
    let e : 0 + length p ≡ length p = omega arith in
    let f : length d - 0 ≡ length d = omega arith in
    rw (e, f) (front_cut d p)
stored_cut [] (suc i) p h = absurd (omega arith)
stored_cut (x ∷ d) (suc i) p h =
    let e : min (suc (length d)) (suc i + length p) ≡ suc (min (length d) (i + length p)) = omega arith in
    let f : suc (length d) - suc i ≡ length d - i = omega arith in
    rw (e, f, sets_cons x d i p) (ap (λ (l : List ℕ). x ∷ l) (stored_cut d i p (omega arith)))

take_both : (n : ℕ) (g p : List ℕ) → take n (g ++ p) ≡ take n g ++ take (n - length g) p
take_both n [] p = let e : n - 0 ≡ n = omega arith in rw (e, take-nil)
take_both zero (x ∷ g) p = let e : 0 - suc (length g) ≡ 0 = omega arith in rw e
take_both (suc n) (x ∷ g) p =
    let e : suc n - suc (length g) ≡ n - length g = omega arith in
    rw e (ap (λ (l : List ℕ). x ∷ l) (take_both n g p))

-- THE BUFFER
pub record Stands (d : List ℕ) (g : Gathered) (line : List ℕ) : Type 0 where
  pub len_is : g.len ≡ min (length d) (length line)
  pub long_is : g.long ≡ ltb (length d) (length line)
  pub bytes_are : take g.len d ≡ take (length d) line

pub stands_none : (d : List ℕ) → Stands d nothing []
stands_none d =
    record {
      len_is = omega arith;
      long_is = sym (le-ltb (length d) 0 (omega arith));
      bytes_are = sym (take-nil (length d));
    }

-- longer before, or now
long_more : (room n m : ℕ) → (ltb room n || ltb room (min room n + m)) ≡ ltb room (n + m)
long_more room n m =
    (elim (ltb room n) as (λ t. ltb room n ≡ t → (t || ltb room (min room n + m)) ≡ ltb room (n + m)) [
      | true ↦ λ e. sym (lt-ltb room (n + m) (omega (arith, ltb-true room n e)))
      | false ↦ λ e. let q : min room n ≡ n = omega (arith, ltb-false room n e) in rw q
    ])
    refl

module _ {d : List ℕ} {g : Gathered} {line : List ℕ} (h : Stands d g line) where
  pub stands-more : (p d' : List ℕ) (g' : Gathered) → d' ≡ sets d g.len p
      → g' ≡ gather_more (length d) g (length p) → Stands d' g' (line ++ p)
  unfolding gather_more
  stands-more p d' g' e f =
      let l : length d' ≡ length d = rw (e, length-sets) in
      let n : g'.len ≡ min (length d) (g.len + length p) = ap (λ (x : Gathered). x.len) f in
      let m : g'.long ≡ (g.long || ltb (length d) (g.len + length p)) =
      ap (λ (x : Gathered). x.long) f in
      let r : length d - g.len ≡ length d - length line = omega (arith, h.len_is) in
      record {
        len_is = rw (l, length-append) (omega (arith, h.len_is));
        long_is = m ∙ rw (h.long_is, h.len_is, l, length-append)
            (long_more (length d) (length line) (length p));
        bytes_are = rw (l, n, e)
            (stored_cut d g.len p (omega (arith, h.len_is))
            ∙ rw (r, h.bytes_are) (sym (take_both (length d) line p)));
      }

  pub told_in : 0 < length d → name_in d g ≡ map (told_name (length d)) (not_empty (line ∷ []))
  told_in l = by line h
    where
      by : (line : List ℕ) → Stands d g line
          → name_in d g ≡ map (told_name (length d)) (not_empty (line ∷ []))
      by [] s = let e : g.len ≡ 0 = omega (arith, s.len_is) in rw (eq-eqb g.len 0 e)
      by (b ∷ t) s =
          let e : g.len ≡ 0 → ⊥ = λ q. omega (arith, s.len_is) in
          rw (ne_eqb g.len 0 e, s.bytes_are, s.long_is)
