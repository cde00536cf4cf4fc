-- Fields written one behind the other are their bytes written at once, and lengths add up, whatever is
-- capped. Assumes nothing.
--     writes_none     nothing is written
--     writes_put      bytes that a call stored
--     writes_as       the same bytes, otherwise said
--     writes_length   a buffer keeps its length
--     writes_then     two writes in a row are one, in a buffer that ends where a usize does
--     plus-length     so many bytes more
--     plus_then       in two steps; plus-chain: of two calls
--     fits_length     there is room just where the true length is no more than the room
use Prim.Native.Nat.{ℕ, ◌+◌, ◌≤◌, ◌<◌, min}
use mathlib.Core.Path.{◌≡◌, refl, sym, ap, subst, ◌∙◌}
use mathlib.Core.Bool.{Bool, true, false, not, ◌&&◌, ◌||◌, or-false, or-true}
use mathlib.Core.List.{List, [], ◌++◌}
use native.Mathlib.Omega.{arith}
use lib.Dec.{leb, ltb}
use lib.ListN.{length, length-append}
use lib.Seq.{sets, length-sets}
use borrow.Author.Tests.{lt-ltb, le-ltb, ltb-true, ltb-false, lt-leb}
use Rattle.lists.proofs.Stores.{sets-append, sets-out}
use Rattle.byte_writer.specs.declared.Length.{Length}
use Rattle.byte_writer.specs.Places.{most, capped, Writes, length_of, plus_of, fits_in}

-- by whether a number passes the largest usize
by_most : (P : ℕ → Type 0) (n : ℕ) → (n ≤ most → P n) → (most < n → P most) → P (capped n)
by_most P n f g =
    (elim (ltb most n) as (λ t. ltb most n ≡ t → P (capped n)) [
      | true ↦ λ e. let l = ltb-true most n e in let m : min n most ≡ most = omega arith in rw m (g l)
      | false ↦ λ e. let l = ltb-false most n e in let m : min n most ≡ n = omega arith in rw m (f l)
    ])
    refl

pub small : (n : ℕ) → n ≤ most → capped n ≡ n
small n l = omega arith

-- a place that was capped moves on as the true one does
pub capped-plus : (n m : ℕ) → capped (capped n + m) ≡ capped (n + m)
capped-plus n m = omega arith

-- and takes what the true one takes
pub capped_place : (d : List ℕ) (at : ℕ) (e : List ℕ) → length d ≤ most → sets d (capped at) e ≡ sets d at e
capped_place d at e l =
    by_most (λ n. sets d n e ≡ sets d at e) at (λ h. refl)
    (λ h. sets-out d most e l ∙ sym (sets-out d at e (omega arith)))

pub writes_none : (d : List ℕ) (at : ℕ) → at ≤ most → Writes d d at [] at
writes_none d at l = record { is = refl; next = omega arith }

-- what a call stored, and a place worked out from the number of bytes
pub writes_put : {d d' : List ℕ} {at n to : ℕ} (e : List ℕ) → d' ≡ sets d at e → n ≡ length e
    → to ≡ capped (at + n) → Writes d d' at e to
writes_put {at = at} e p l q = record { is = p; next = q ∙ ap (λ (k : ℕ). capped (at + k)) l }

-- the second write may ask that its buffer, too, ends where a usize does
pub writes_then : {d d' d'' : List ℕ} {at m to : ℕ} {e f : List ℕ}
    → length d ≤ most → Writes d d' at e m → (length d' ≤ most → Writes d' d'' m f to)
    → Writes d d'' at (e ++ f) to
writes_then {d} {d'} {d''} {at} {m} {to} {e} {f} l v next =
    let long : length d' ≤ most = rw (v.is, length-sets) l in
    let w = next long in
    record {
      is =
          w.is ∙ ap (λ (n : ℕ). sets d' n f) v.next ∙ capped_place d' (at + length e) f long
          ∙ ap (λ (l : List ℕ). sets l (at + length e) f) v.is ∙ sets-append d at e f;
      next = w.next ∙ rw (v.next, capped-plus, length-append) (ap capped (omega arith));
    }

-- the same bytes, otherwise said
pub writes_as : {d d' : List ℕ} {at to : ℕ} {e f : List ℕ} → e ≡ f → Writes d d' at e to → Writes d d' at f to
writes_as {d} {d'} {at} {to} q w = subst (λ (e : List ℕ). Writes d d' at e to) q w

-- a buffer keeps its length
pub writes_length : {d d' : List ℕ} {at to : ℕ} {e : List ℕ} → Writes d d' at e to → length d' ≡ length d
writes_length w = rw (w.is, length-sets)

-- LENGTHS
abbrev made : ℕ → Bool → Length
made b o = record { bytes = b; over = o }

pub length_is : (n : ℕ) → n ≤ most → record { bytes = n; over = false } ≡ length_of n
length_is n l = let m : capped n ≡ n = omega arith in rw (m, le-ltb most n l)

pub plus_fits : (l : Length) (n : ℕ) → l.bytes + n ≤ most
    → record { bytes = l.bytes + n; over = l.over } ≡ plus_of l n
unfolding plus_of
plus_fits l n h = let m : capped (l.bytes + n) ≡ l.bytes + n = omega arith in
    rw (m, le-ltb most (l.bytes + n) h, or-false l.over)

pub plus_over : (l : Length) (n : ℕ) → most < l.bytes + n → record { bytes = most; over = true } ≡ plus_of l n
unfolding plus_of
plus_over l n h = let m : capped (l.bytes + n) ≡ most = omega arith in
    rw (m, lt-ltb most (l.bytes + n) h, or-true l.over)

pub plus-length : (a n : ℕ) → plus_of (length_of a) n ≡ length_of (a + n)
unfolding plus_of
plus-length a n =
    (elim (ltb most a) as
    (λ t. ltb most a ≡ t
    → record { bytes = capped (capped a + n); over = t || ltb most (capped a + n) } ≡ length_of (a + n)) [
      | true ↦ λ e. let l : most < a + n = omega (arith, ltb-true most a e) in
          rw (capped-plus a n, lt-ltb most (a + n) l)
      | false ↦ λ e. let m : capped a ≡ a = omega (arith, ltb-false most a e) in rw m
    ])
    refl

-- in two steps, or none
pub plus_then : (l : Length) (n m : ℕ) → plus_of (plus_of l n) m ≡ plus_of l (n + m)
unfolding plus_of
plus_then l n m =
    (elim (ltb most (l.bytes + n)) as
    (λ t. ltb most (l.bytes + n) ≡ t
    → made (capped (capped (l.bytes + n) + m)) ((l.over || t) || ltb most (capped (l.bytes + n) + m))
    ≡ made (capped (l.bytes + (n + m))) (l.over || ltb most (l.bytes + (n + m)))) [
      | true ↦ λ e. let h : most < l.bytes + (n + m) = omega (arith, ltb-true most (l.bytes + n) e) in
          let b : capped (capped (l.bytes + n) + m) ≡ capped (l.bytes + (n + m)) = omega arith in
          rw (b, lt-ltb most (l.bytes + (n + m)) h, or-true l.over)
      | false ↦ λ e. let b : capped (l.bytes + n) ≡ l.bytes + n =
          omega (arith, ltb-false most (l.bytes + n) e) in
          let a : l.bytes + n + m ≡ l.bytes + (n + m) = omega arith in rw (b, a, or-false l.over)
    ])
    refl

pub plus_chain : (l : Length) (n m : ℕ) {r t : Length} → r ≡ plus_of l n → t ≡ plus_of r m
    → t ≡ plus_of l (n + m)
plus_chain l n m p q = q ∙ ap (λ (x : Length). plus_of x m) p ∙ plus_then l n m

pub fits_length : (n room : ℕ) → room ≤ most → fits_in (length_of n) room ≡ leb n room
unfolding fits_in
fits_length n room l =
    (elim (ltb most n) as (λ t. ltb most n ≡ t → (not t && leb (capped n) room) ≡ leb n room) [
      | true ↦ λ e. let h : room < n = omega (arith, ltb-true most n e) in rw (lt-leb n room h)
      | false ↦ λ e. let m : capped n ≡ n = omega (arith, ltb-false most n e) in rw m
    ])
    refl
