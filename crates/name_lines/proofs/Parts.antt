-- THE LAST PART OF A NAME, and names with a slash at their end. Assumes nothing.
--     last_part_is   `IsLastPart` of specs/Paths.antt
-- And, by the tests of the code, where the last part begins and whether a name ends in a slash.
use Prim.Native.Nat.{ℕ, suc, ◌-◌, ◌<◌, ◌≤◌}
use mathlib.Core.Path.{◌≡◌, refl, ap, sym, ◌∙◌}
use mathlib.Core.Logic.{inl, inr, ⊎_elim}
use mathlib.Core.Bool.{Bool, true, false, cond, or-true, or-false}
use mathlib.Core.List.{List, [], ◌∷◌, ◌++◌}
use native.Mathlib.Omega.{arith}
use lib.Dec.{eqb}
use Rattle.std.proofs.lemmas.Bool.Decides.{nat_tests}
use Rattle.std.proofs.Common.{nat_eq}
use Rattle.std.specs.List.{ends_with}
use lib.ListN.{length, get_or, take, drop}
use lib.Seq.{drop-cons, split_at}
use borrow.Author.Tests.{eqb-true, ne_eqb}
use Rattle.name_lines.specs.NameLines.{holds}
use Rattle.name_lines.specs.Paths.{slash, last_part, IsLastPart, LastPartAt, ends_in_slash}

-- by whether a slash is there
by_slash : (P : Bool → Type 0) (s : List ℕ) → (holds slash s ≡ true → P true)
    → (holds slash s ≡ false → P false) → P (holds slash s)
by_slash P s f g = (elim (holds slash s) as (λ t. holds slash s ≡ t → P t) [ true ↦ f | false ↦ g ]) refl

last_free : (name : List ℕ) → holds slash (last_part name) ≡ false
unfolding last_part
last_free [] = refl
last_free (b ∷ s) =
    by_slash (λ t. holds slash (cond t (last_part s) (b ∷ s)) ≡ false) (b ∷ s) (λ e. last_free s) (λ e. e)

alone : (s : List ℕ) → holds slash s ≡ false → IsLastPart s s
alone s h = record { free = h; front = []; whole = refl; front_ends = inl refl }

-- a byte more in front, where it or one behind it is a slash
in_front : (b : ℕ) {s part : List ℕ} → holds slash (b ∷ s) ≡ true → IsLastPart s part
    → IsLastPart (b ∷ s) part
in_front b {s} {part} h p = record {
  free = p.free;
  front = b ∷ p.front;
  whole = ap (λ (l : List ℕ). b ∷ l) p.whole;
  front_ends = ⊎_elim
      (λ e.
      let n : holds slash s ≡ false = ap (holds slash) p.whole ∙ rw e p.free in
      let m : b ≡ slash = eqb-true b slash (rw (n, or-false (eqb b slash)) at h) in
      inr ([], (cc)))
      (λ w. inr (b ∷ w.0, ap (λ (l : List ℕ). b ∷ l) w.1))
      p.front_ends;
}

pub last_part_is : (name : List ℕ) → IsLastPart name (last_part name)
unfolding last_part
last_part_is [] = alone [] refl
last_part_is (b ∷ s) =
    by_slash (λ t. IsLastPart (b ∷ s) (cond t (last_part s) (b ∷ s))) (b ∷ s)
    (λ h. in_front b h (last_part_is s)) (λ h. alone (b ∷ s) h)

part_alone : (s : List ℕ) → holds slash s ≡ false → last_part s ≡ s
unfolding last_part
part_alone [] h = refl
part_alone (b ∷ s) h = rw h

holds_in : (f t : List ℕ) → holds slash (f ++ slash ∷ t) ≡ true
holds_in [] t = refl
holds_in (b ∷ f) t = rw (holds_in f t, or-true (eqb b slash))

part_behind : (f t : List ℕ) → holds slash t ≡ false → last_part (f ++ slash ∷ t) ≡ t
unfolding last_part
part_behind [] t h = part_alone t h
part_behind (b ∷ f) t h = rw (holds_in f t, or-true (eqb b slash)) (part_behind f t h)

module _ (name : List ℕ) (i : ℕ) (l : i ≤ length name) (free : holds slash (drop i name) ≡ false) where
  -- the byte before is a slash
  pub part-found : 0 < i → get_or name (i - 1) 0 ≡ slash → LastPartAt name i
  part-found p e =
      let n : suc (i - 1) ≡ i = omega arith in
      let q : name ≡ take (i - 1) name ++ slash ∷ drop i name =
      rw (n, e) at (split_at name (i - 1) 0 (omega arith)) in
      record {
        is = sym (ap last_part q ∙ part_behind (take (i - 1) name) (drop i name) free);
        fits = l;
      }

  -- it is none
  pub free_more : 0 < i → (get_or name (i - 1) 0 ≡ slash → ⊥) → holds slash (drop (i - 1) name) ≡ false
  free_more p e =
      let n : suc (i - 1) ≡ i = omega arith in
      let q : drop (i - 1) name ≡ get_or name (i - 1) 0 ∷ drop i name =
      rw n at (drop-cons name (i - 1) 0 (omega arith)) in
      rw (q, ne_eqb _ _ e) free

pub part_whole : (name : List ℕ) → holds slash name ≡ false → LastPartAt name 0
part_whole name h = record { is = sym (part_alone name h); fits = omega arith }

pub slash_end : (dir : List ℕ) → ends_with nat_eq dir (slash ∷ []) ≡ ends_in_slash dir
unfolding ends_in_slash
slash_end [] = refl
slash_end (b ∷ []) = grind (arith, nat_tests)
slash_end (b ∷ c ∷ s) =
    let e : suc (suc (length s)) - 1 ≡ suc (length s) = omega arith in
    let f : suc (length s) - 1 ≡ length s = omega arith in
    rw e (rw f at (slash_end (c ∷ s)))
