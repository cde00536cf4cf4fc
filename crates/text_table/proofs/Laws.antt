-- A list of texts, cut at the 00 that `text_end` finds. Assumes nothing.
--     next-found, next-missing    the place behind a text
--     end_or                      the place of its end
--     behind-none, behind_more    no text was passed, and one more
--     text_at_lem                 text n is the one behind n texts
use Prim.Native.Nat.{ℕ, zero, suc, ◌+◌, ◌-◌, ◌≤◌}
use mathlib.Core.Path.{◌≡◌, refl, sym, ap, ◌∙◌}
use mathlib.Core.List.{List, [], ◌∷◌, ◌++◌}
use mathlib.Core.Option.{Option, none, some}
use native.Mathlib.Omega.{arith}
use native.Mathlib.Nat.{add-zero}
use lib.ListN.{length, get_or, take, drop, length-drop}
use lib.Seq.{drop-drop, drop-length, get_or-drop, take_all}
use Rattle.std.specs.Prelude.{Option as StdOption, Some, None}
use Rattle.std.specs.Option.{unwrap_or}
use Rattle.text.specs.Bytes.{non_zero, NoZero}
use Rattle.text.specs.Ends.{up_to00, end_after, text_end}
use Rattle.text.proofs.Bytes.{all_tail}
use Rattle.text.proofs.Ends.{text_is, text_split, none_free, end_is}
use Rattle.text_table.specs.Texts.{onto, texts, text_at}
use Rattle.text_table.specs.Places.{NextAt, Behind, EndsAt}

-- a text and its 00
texts_cut : (t rest : List ℕ) → NoZero t → texts (t ++ 0 ∷ rest) ≡ t ∷ texts rest
unfolding texts
texts_cut [] rest h = refl
texts_cut (zero ∷ t) rest h = cc
texts_cut (suc b ∷ t) rest h = ap (onto (suc b)) (texts_cut t rest (all_tail non_zero (suc b) t h))

-- the first of some texts and the others
record Parted (l : List (List ℕ)) (first : List ℕ) (others : List (List ℕ)) : Type 0 where
  first_is : get_or l 0 [] ≡ first
  others_are : drop 1 l ≡ others

onto_parted : (b : ℕ) (l : List (List ℕ)) {first : List ℕ} {others : List (List ℕ)} → Parted l first others
    → Parted (onto b l) (b ∷ first) others
onto_parted b [] p =
    record { first_is = ap (λ (t : List ℕ). b ∷ t) p.first_is; others_are = p.others_are }
onto_parted b (t ∷ l) p =
    record { first_is = ap (λ (t : List ℕ). b ∷ t) p.first_is; others_are = p.others_are }

-- a text that lacks its 00
texts_free : (t : List ℕ) → NoZero t → Parted (texts t) t []
unfolding texts
texts_free [] h = record { first_is = refl; others_are = refl }
texts_free (zero ∷ t) h = let z : ◌≡◌ {A = ℕ} 0 1 = cc in absurd (omega arith)
texts_free (suc b ∷ t) h = onto_parted (suc b) (texts t) (texts_free t (all_tail non_zero (suc b) t h))

module _ (s : List ℕ) (at : ℕ) where
  found : (end : ℕ) (o : Option ℕ) → up_to00 (drop at s) ≡ o → end_after at o ≡ Some end
      → Parted (texts (drop at s)) (take (end - at) (drop at s)) (texts (drop (end + 1) s))
  found end none e h = let z : ◌≡◌ {A = ℕ} 0 1 = cc in absurd (omega arith)
  found end (some n) e h =
      let place : at + n ≡ end = cc in
      let len : end - at ≡ n = omega arith in
      let past : end + 1 ≡ at + suc n = omega arith in
      let all = ap texts (text_split (drop at s) n e)
      ∙ texts_cut (take n (drop at s)) (drop (suc n) (drop at s)) (text_is (drop at s) n e).free in
      record {
        first_is = rw len (ap (λ (l : List (List ℕ)). get_or l 0 []) all);
        others_are = rw (past, ← drop-drop) (ap (drop 1) all);
      }

  text-cut : (end : ℕ) → text_end s at ≡ Some end
      → Parted (texts (drop at s)) (take (end - at) (drop at s)) (texts (drop (end + 1) s))
  unfolding text_end
  text-cut end h = found end (up_to00 (drop at s)) refl h

  missing : (o : Option ℕ) → up_to00 (drop at s) ≡ o → end_after at o ≡ None
      → Parted (texts (drop at s)) (drop at s) []
  missing none e h = texts_free (drop at s) (none_free (drop at s) e)
  missing (some n) e h = let z : ◌≡◌ {A = ℕ} 0 1 = cc in absurd (omega arith)

  text-last : text_end s at ≡ None → Parted (texts (drop at s)) (drop at s) []
  unfolding text_end
  text-last h = missing (up_to00 (drop at s)) refl h

  pub next-found : (end : ℕ) → text_end s at ≡ Some end → NextAt s at (end + 1)
  next-found end h =
      record { inside = omega (arith, (end_is s at end h).inside); others = sym (text-cut end h).others_are }

  pub next-missing : text_end s at ≡ None → NextAt s at (length s)
  unfolding texts
  next-missing h =
      record { inside = omega arith; others = rw (drop-length s) (sym (text-last h).others_are) }

  -- where its 00 stands, or else the list's end
  pub end_or : at ≤ length s → EndsAt s at (unwrap_or (text_end s at) (length s))
  end_or l = by (text_end s at) refl
    where
      by : (o : StdOption ℕ) → text_end s at ≡ o → EndsAt s at (unwrap_or o (length s))
      by (Some end) h =
          let e = end_is s at end h in
          record { after = e.after; inside = omega (arith, e.inside); first = (text-cut end h).first_is }
      by None h =
          record {
            after = l;
            inside = omega arith;
            first = (text-last h).first_is
                ∙ sym (take_all (length s - at) (drop at s) (rw length-drop (omega arith)));
          }

-- no text was passed
pub behind-none : (list : List ℕ) → Behind 0 list 0
behind-none list = record { inside = omega arith; others = refl }

-- one text more was passed
pub behind_more : {n : ℕ} {list : List ℕ} {at next : ℕ} → Behind n list at → NextAt list at next
    → Behind (n + 1) list next
behind_more {n} {list} b w =
    record {
      inside = w.inside;
      others = w.others ∙ ap (drop 1) b.others ∙ drop-drop 1 n (texts list);
    }

-- text n is the first of those behind n texts
pub text_at_lem : {n : ℕ} {list : List ℕ} {at end : ℕ} → Behind n list at → EndsAt list at end
    → take (end - at) (drop at list) ≡ text_at list n
unfolding text_at
text_at_lem {n} {list} b e =
    sym e.first ∙ ap (λ (l : List (List ℕ)). get_or l 0 []) b.others ∙ get_or-drop n (texts list) 0 []
    ∙ ap (λ (k : ℕ). get_or (texts list) k []) (add-zero n)

-- text k of a list whose texts are known
pub text_of : (list : List ℕ) {all : List (List ℕ)} (k : ℕ) → texts list ≡ all → text_at list k ≡ get_or all k []
unfolding text_at
text_of list k e = ap (λ (l : List (List ℕ)). get_or l k []) e
