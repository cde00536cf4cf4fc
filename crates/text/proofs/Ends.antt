-- A zero-ended text: what was written with its 00 is read back, and what is read holds no 00. Assumes
-- nothing.
use Prim.Native.Nat.{ℕ, suc, ◌+◌, ◌-◌, ◌<◌, ◌≤◌}
use mathlib.Core.Path.{◌≡◌, refl, ap, subst, ◌∙◌}
use mathlib.Core.Bool.{true, false, not}
use mathlib.Core.List.{List, [], ◌∷◌, ◌++◌}
use mathlib.Core.Option.{Option, none, some, map}
use native.Mathlib.Numerals.{add-one}
use native.Mathlib.Omega.{arith}
use lib.ListN.{length, get_or, take, drop, length-drop, drop_of_length-le}
use lib.Seq.{drop-cons, split_at, length-take-le, get_or-drop}
use lib.Dec.{eqb}
use borrow.Author.Tests.{eq-eqb, ne_eqb, eqb-true, not-true}
use Rattle.std.specs.Prelude.{Some, None}
use Rattle.text.specs.Bytes.{non_zero, NoZero}
use Rattle.text.specs.Ends.{up_to00, end_after, text_end}
use Rattle.text.proofs.Bytes.{all_head, all_tail, all_cons}

head-not-zero : (b : ℕ) (l : List ℕ) → NoZero (b ∷ l) → eqb b 0 ≡ false
head-not-zero b l h = not-true (eqb b 0) (all_head non_zero b l h)

-- a text and its 00
pub text_back : (t r : List ℕ) → NoZero t → up_to00 (t ++ 0 ∷ r) ≡ some (length t)
unfolding up_to00
text_back [] r h = refl
text_back (b ∷ t) r h = rw (head-not-zero b t h, up_to00) (rw (text_back t r (all_tail non_zero b t h)))

-- what stands before a 00 that was found
pub record TextOf (l : List ℕ) (n : ℕ) : Type 0 where
  pub inside : n < length l
  pub free : NoZero (take n l)
  pub ended : get_or l n 0 ≡ 0

-- what an answer of `up_to00` says of the list
abbrev Says : List ℕ → Option ℕ → Type 0
Says l none = NoZero l
Says l (some n) = TextOf l n

past : (b : ℕ) (l : List ℕ) (o : Option ℕ) → non_zero b ≡ true → Says l o → Says (b ∷ l) (map suc o)
past b l none e h = all_cons non_zero b l e h
past b l (some n) e h =
    record {
      inside = omega (arith, h.inside);
      free = all_cons non_zero b (take n l) e h.free;
      ended = h.ended;
    }

says : (l : List ℕ) → Says l (up_to00 l)
unfolding up_to00
says [] = refl
says (b ∷ l) =
    (elim (eqb b 0) as (λ t. eqb b 0 ≡ t → Says (b ∷ l) (up_to00 (b ∷ l))) [
      | true ↦ λ e. rw (e, up_to00) (record { inside = omega arith; free = refl; ended = eqb-true b 0 e })
      | false ↦ λ e. rw (e, up_to00) (past b l (up_to00 l) (ap not e) (says l))
    ])
    refl

pub text_is : (l : List ℕ) (n : ℕ) → up_to00 l ≡ some n → TextOf l n
text_is l n e = subst (Says l) e (says l)

-- the text, its 00, and what follows
pub text_split : (l : List ℕ) (n : ℕ) → up_to00 l ≡ some n → l ≡ take n l ++ 0 ∷ drop (suc n) l
text_split l n e =
    let w = text_is l n e in
    split_at l n 0 w.inside ∙ ap (λ (b : ℕ). take n l ++ b ∷ drop (suc n) l) w.ended

-- what stands behind the 00 is never looked at
pub text_local : (l r : List ℕ) (n : ℕ) → up_to00 l ≡ some n → up_to00 (take n l ++ 0 ∷ r) ≡ some n
text_local l r n e =
    let w = text_is l n e in
    let h : n ≤ length l = omega (arith, w.inside) in
    text_back (take n l) r w.free ∙ ap some (length-take-le n l h)

-- no 00 is found exactly where there is none
pub none_free : (l : List ℕ) → up_to00 l ≡ none → NoZero l
none_free l e = subst (Says l) e (says l)

pub free_none : (l : List ℕ) → NoZero l → up_to00 l ≡ none
unfolding up_to00
free_none [] h = refl
free_none (b ∷ l) h = rw (head-not-zero b l h, up_to00) (rw (free_none l (all_tail non_zero b l h)))

-- one byte further on
moved : (at : ℕ) (o : Option ℕ) → end_after at (map suc o) ≡ end_after (suc at) o
moved at none = refl
moved at (some n) = ap Some (omega arith)

module _ (s : List ℕ) (i : ℕ) where
  pub end-here : i < length s → get_or s i 0 ≡ 0 → text_end s i ≡ Some i
  unfolding text_end up_to00
  end-here h e = rw (drop-cons s i 0 h) (simp (eq-eqb _ _ e) (ap Some (omega arith)))

  pub end_later : i < length s → (get_or s i 0 ≡ 0 → ⊥) → text_end s i ≡ text_end s (i + 1)
  unfolding text_end up_to00
  end_later h e = rw (drop-cons s i 0 h)
      (simp (ne_eqb _ _ e) (rw add-one (moved i (up_to00 (drop (suc i) s)))))

  pub end_none : length s ≤ i → text_end s i ≡ None
  unfolding text_end up_to00
  end_none h = rw (drop_of_length-le s h)

-- a 00 that was found stands in s, at or after `at`, and none before it
pub record Ended (s : List ℕ) (at end : ℕ) : Type 0 where
  pub after : at ≤ end
  pub inside : end < length s
  pub free : NoZero (take (end - at) (drop at s))
  pub ended : get_or s end 0 ≡ 0

found : (s : List ℕ) (at end : ℕ) (o : Option ℕ) → up_to00 (drop at s) ≡ o → end_after at o ≡ Some end
    → Ended s at end
found s at end none e h = let z : ◌≡◌ {A = ℕ} 0 1 = cc in absurd (omega arith)
found s at end (some n) e h =
    let w = text_is (drop at s) n e in
    let f : at + n ≡ end = cc in
    let g : end - at ≡ n = omega arith in
    record {
      after = omega arith;
      inside = omega (arith, simp length-drop at w.inside);
      free = rw g w.free;
      ended = rw (← f, ← get_or-drop at s n 0) w.ended;
    }

pub end_is : (s : List ℕ) (at end : ℕ) → text_end s at ≡ Some end → Ended s at end
unfolding text_end
end_is s at end h = found s at end (up_to00 (drop at s)) refl h
