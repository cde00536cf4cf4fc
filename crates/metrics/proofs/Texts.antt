-- THE READER OF SO MANY TEXTS AND THE BLOCKS THAT ARE SO MANY (02, note 3). Assumes nothing.
--     texts-takes    what was written is read: wherever such a block stands, the reader takes it to its end
--     block-takes    and gives its place
--     texts-read     what the reader accepts is such a block
--     texts-is       a block passes exactly if it is so many texts, and nothing more
use Prim.Native.Nat.{ℕ, zero, suc, ◌+◌, ◌-◌, ◌≤◌}
use mathlib.Core.Path.{◌≡◌, refl, sym, ap, subst, ◌∙◌}
use mathlib.Core.Bool.{Bool, true, false, cond}
use mathlib.Core.List.{List, [], ◌∷◌, ◌++◌, append_assoc, append-nil}
use mathlib.Core.Option.{Option, none as nowhere, some}
use native.Mathlib.Omega.{arith}
use lib.ListN.{length, take, drop, length-append, length-drop, drop_of_length-le}
use lib.Seq.{drop-drop, take-append_seam, length-take-le}
use borrow.Author.Tests.{eqb-true, eq-eqb}
use Rattle.text.specs.declared.Place.{Place}
use Rattle.text.specs.Places.{bytes_at}
use Rattle.text.specs.Ends.{up_to00}
use Rattle.text.specs.Utf8.{utf8}
use Rattle.text.specs.Words.{Word}
use Rattle.text.proofs.Ends.{text_is, text_split}
use Rattle.game.specs.Refusals.{text_not_utf8}
use Rattle.byte_reader.specs.Reading.{Got, ok, no, follow, ◌>>=◌, pure}
use Rattle.byte_reader.specs.Fields.{ended, text, must_be_utf8, utf8_text}
use Rattle.byte_reader.proofs.Laws.{Takes, then, pure-takes, word-takes}
use Rattle.metrics.specs.Block.{texts, block_of_texts, ends_at, are_texts}
use Rattle.metrics.specs.Texts.{Texts, none, more}

-- WHAT WAS WRITTEN IS READ
module _ (s : List ℕ) where
  pub texts-takes : {n : ℕ} {b : List ℕ} → Texts n b → Takes s (texts n) b (λ u. Unit {0})
  unfolding texts
  texts-takes none = pure-takes s tt tt
  texts-takes (more {n = n} {text = t} {rest = r} w ts) =
      subst (λ (l : List ℕ). Takes s (texts (suc n)) l (λ u. Unit {0})) (append_assoc t (0 ∷ []) r)
      (then s (λ p. texts n) (word-takes s t w) (λ p e. texts-takes ts))

  pub block-takes : {n : ℕ} {b : List ℕ} → Texts n b → Takes s (block_of_texts n) b (λ p. bytes_at s p ≡ b)
  unfolding block_of_texts
  block-takes {n} {b} ts =
      record {
        go = λ at r h.
            let a = (texts-takes ts).go at r h in
            let long : at + length b - at ≡ length b = omega arith in
            record {
              value = record { start = at; len = at + length b - at };
              gives = rw a.gives;
              holds = rw (long, h.here) (take-append_seam b r);
            };
      }

-- WHAT IS READ IS SO MANY TEXTS

-- from a place of the file to another, a text and its 00
record TextAt (s : List ℕ) (at to : ℕ) : Type 0 where
  text : List ℕ
  word : Word text
  here : drop at s ≡ text ++ 0 ∷ drop to s
  long : to ≡ at + (length text + 1)
  inside : to ≤ length s

-- so many
pub record TextsAt (s : List ℕ) (n at to : ℕ) : Type 0 where
  pub block : List ℕ
  pub are : Texts n block
  pub here : drop at s ≡ block ++ drop to s
  pub long : to ≡ at + length block
  pub inside : to ≤ length s

module _ (s : List ℕ) where
  by-utf8 : (at n : ℕ) (b : Bool) → up_to00 (drop at s) ≡ some n → utf8 (take n (drop at s)) ≡ b
      → {p : Place} {to : ℕ}
      → cond b (ok (record { start = at; len = n }) (at + (n + 1))) (no text_not_utf8) ≡ ok p to
      → TextAt s at to
  by-utf8 at n true u e {p} {to} q =
      let t = text_is (drop at s) n u in
      let to_is : to ≡ at + (n + 1) = cc in
      let i : n + 1 + at ≤ length s = omega (arith, t.inside, length-drop at s) in
      let l : length (take n (drop at s)) ≡ n =
      length-take-le n (drop at s) (omega (arith, t.inside)) in
      let m : at + suc n ≡ to = omega (arith, to_is) in
      record {
        text = take n (drop at s);
        word = record { spelled = e; free = t.free };
        here = text_split (drop at s) n u
            ∙ ap (λ (r : List ℕ). take n (drop at s) ++ 0 ∷ r)
            (drop-drop (suc n) at s ∙ ap (λ (k : ℕ). drop k s) m);
        long = omega (arith, to_is, l);
        inside = omega (arith, to_is, i);
      }
  by-utf8 at n false u e q = let z : ◌≡◌ {A = ℕ} 0 1 = cc in absurd (omega arith)

  by_end : (at : ℕ) (o : Option ℕ) → up_to00 (drop at s) ≡ o → {p : Place} {to : ℕ}
      → follow (ended at o) (λ a k. must_be_utf8 a s k) ≡ ok p to → TextAt s at to
  unfolding must_be_utf8
  by_end at nowhere u q = let z : ◌≡◌ {A = ℕ} 0 1 = cc in absurd (omega arith)
  by_end at (some n) u q = by-utf8 at n (utf8 (take n (drop at s))) u refl q

  text-read : (at : ℕ) {p : Place} {to : ℕ} → utf8_text s at ≡ ok p to → TextAt s at to
  unfolding utf8_text ◌>>=◌ text
  text-read at q = by_end at (up_to00 (drop at s)) refl q

  one_more : {n at mid to : ℕ} → TextAt s at mid → TextsAt s n mid to → TextsAt s (suc n) at to
  one_more t ts =
      record {
        block = t.text ++ 0 ∷ ts.block;
        are = more t.word ts.are;
        here = t.here ∙ ap (λ (r : List ℕ). t.text ++ 0 ∷ r) ts.here
            ∙ sym (append_assoc t.text (0 ∷ ts.block) _);
        long = omega (arith, t.long, ts.long, length-append t.text (0 ∷ ts.block));
        inside = ts.inside;
      }

  by-text : (n at : ℕ) (u : Unit {0}) (to : ℕ)
      → ((k : ℕ) → k ≤ length s → texts n s k ≡ ok u to → TextsAt s n k to)
      → (g : Got Place) → utf8_text s at ≡ g → follow g (λ a k. texts n s k) ≡ ok u to
      → TextsAt s (suc n) at to
  by-text n at u to rest (ok p mid) e q = let t = text-read at e in one_more t (rest mid t.inside q)
  by-text n at u to rest (no k) e q = let z : ◌≡◌ {A = ℕ} 0 1 = cc in absurd (omega arith)

  pub texts-read : (n at : ℕ) (u : Unit {0}) (to : ℕ) → at ≤ length s → texts n s at ≡ ok u to
      → TextsAt s n at to
  unfolding texts ◌>>=◌ pure
  texts-read zero at u to l q =
      let e : to ≡ at = cc in
      record {
        block = [];
        are = none;
        here = ap (λ (k : ℕ). drop k s) (sym e);
        long = omega (arith, e);
        inside = omega (arith, e, l);
      }
  texts-read (suc n) at u to l q =
      by-text n at u to (λ k. texts-read n k u to) (utf8_text s at) refl q

-- A WHOLE BLOCK
module _ (n : ℕ) (b : List ℕ) where
  passed : (g : Got (Unit {0})) → texts n b 0 ≡ g → ends_at (length b) g ≡ true → Texts n b
  passed (ok u to) e q =
      let t = texts-read b n 0 u to (omega arith) e in
      let l : length b ≤ to = omega (arith, eqb-true to (length b) q) in
      let whole : t.block ≡ b =
      sym (append-nil t.block) ∙ ap (λ (r : List ℕ). t.block ++ r) (sym (drop_of_length-le b l))
      ∙ sym t.here in
      subst (Texts n) whole t.are
  passed (no k) e q = let z : ◌≡◌ {A = ℕ} 0 1 = cc in absurd (omega arith)

  passes : Texts n b → are_texts n b ≡ true
  unfolding are_texts
  passes ts =
      let a = (texts-takes b ts).go 0 [] (record { start = omega arith; here = sym (append-nil b) }) in
      rw a.gives (eq-eqb (0 + length b) (length b) (omega arith))

  pub texts-is : (are_texts n b ≡ true → Texts n b) × (Texts n b → are_texts n b ≡ true)
  unfolding are_texts
  texts-is = (λ q. passed (texts n b 0) refl q, passes)
