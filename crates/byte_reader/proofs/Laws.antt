-- Reading what was written, and what can be read at all: one law a field, and one for fields in a row.
--     Takes p e P    wherever the bytes e stand, p reads them to their end, and P holds of the value
--     Only p P       P holds of whatever p reads
-- Assumes nothing.
use Prim.Native.Nat.{ℕ, zero, suc, ◌+◌, ◌*◌, ◌/◌, ◌%◌, ◌^◌, ◌≤◌, ◌<◌}
use mathlib.Core.Path.{◌≡◌, refl, sym, ap, subst, ◌∙◌}
use mathlib.Core.Bool.{Bool, true, false, cond}
use mathlib.Core.List.{List, [], ◌∷◌, ◌++◌, append_assoc}
use mathlib.Core.Option.{Option, none, some}
use native.Mathlib.Nat.{pow-succ', mod-eq_of_lt, add-zero}
use native.Mathlib.Omega.{arith}
use lib.Arith.{mod-mul}
use lib.ListN.{length, take, drop, length-append, length-drop}
use lib.Seq.{drop-drop, drop-append_seam, take-append_seam, take_at}
use lib.Dec.{leb}
use borrow.Author.Tests.{leb-true}
use Rattle.text.specs.declared.Place.{Place}
use Rattle.text.specs.Places.{bytes_at, Inside}
use Rattle.text.specs.Bytes.{NoZero}
use Rattle.text.specs.Ends.{up_to00}
use Rattle.text.specs.Utf8.{utf8}
use Rattle.text.specs.Words.{Word}
use Rattle.text.proofs.Ends.{text_back, text_is}
use Rattle.byte_reader.specs.Reading.{Got, ok, no, Reader, follow, ◌>>=◌, pure}
use Rattle.byte_reader.specs.Numbers.{followed_by, big_endian, bytes_of, number}
use Rattle.byte_reader.specs.Fields.{bytes, ended, text, must_be_utf8, utf8_text}
use Rattle.byte_reader.specs.declared.ByteReader.{ByteReader}
use Rattle.byte_reader.specs.declared.ByteReader.TheVariants.{At, Refused}
use Rattle.byte_reader.specs.Cursor.{value_of, value_from, Reads}
use Rattle.byte_reader.proofs.Numbers.{some_below, whole}
use Rattle.byte_reader.proofs.Fields.{bytes_whole}

-- NUMBERS: one law for every width
pub length-bytes_of : (k n : ℕ) → length (bytes_of k n) ≡ k
length-bytes_of zero n = refl
length-bytes_of (suc k) n = ap suc (length-bytes_of k n)

followed_by_bytes : (k v n : ℕ) → followed_by v (bytes_of k n) ≡ v * 256 ^ k + n % 256 ^ k
followed_by_bytes zero v n = omega arith
followed_by_bytes (suc k) v n =
    let m = mod-mul n {m = 256} (omega arith) (some_below k) in
    followed_by_bytes k (v * 256 + n / 256 ^ k % 256) n ∙ rw (pow-succ' 256 k) (omega (arith, m))

pub number_back : (k n : ℕ) → n < 256 ^ k → big_endian (bytes_of k n) ≡ n
unfolding big_endian
number_back k n h = followed_by_bytes k 0 n ∙ omega (arith, mod-eq_of_lt h)

-- WHAT WAS WRITTEN IS READ, in the file s
module _ (s : List ℕ) where
  -- the bytes e stand at a place of the file, and r behind them
  pub record Stands (at : ℕ) (e r : List ℕ) : Type 0 where
    pub start : at ≤ length s
    pub here : drop at s ≡ e ++ r

  pub record Value {A : Type 0} (g : Got A) (P : A → Type 0) (to : ℕ) : Type 0 where
    pub value : A
    pub gives : g ≡ ok value to
    pub holds : P value

  pub record Takes {A : Type 0} (p : Reader A) (e : List ℕ) (P : A → Type 0) : Type 0 where
    pub go : (at : ℕ) (r : List ℕ) → Stands at e r → Value (p s at) P (at + length e)

  pub ends-inside : (at : ℕ) (e r : List ℕ) → Stands at e r → at + length e ≤ length s
  ends-inside at e r h = omega (arith, h.start, simp (length-drop, length-append) at (ap length h.here))

  -- of two lists of bytes, the first, and the one behind it
  pub front : (at : ℕ) (e f r : List ℕ) → Stands at (e ++ f) r → Stands at e (f ++ r)
  front at e f r h = record { start = h.start; here = h.here ∙ append_assoc e f r }

  pub behind : (at : ℕ) (e f r : List ℕ) → Stands at (e ++ f) r → Stands (at + length e) f r
  behind at e f r h =
      record {
        start = omega (arith, ends-inside at (e ++ f) r h, length-append e f);
        here = sym (drop-drop (length e) at s) ∙ ap (drop (length e)) (h.here ∙ append_assoc e f r)
            ∙ drop-append_seam e (f ++ r);
      }

  pub then : {A B : Type 0} {p : Reader A} {e f : List ℕ} {P : A → Type 0} {Q : B → Type 0} (q : A → Reader B)
      → Takes p e P → ((a : A) → P a → Takes (q a) f Q) → Takes (p >>= q) (e ++ f) Q
  unfolding ◌>>=◌
  then {e = e} {f = f} q i k =
      record {
        go = λ at r h.
            let a = i.go at (f ++ r) (front at e f r h) in
            let b = (k a.value a.holds).go (at + length e) r (behind at e f r h) in
            let long : at + length e + length f ≡ at + length (e ++ f) = omega (arith, length-append e f) in
            record {
              value = b.value;
              gives = rw a.gives (b.gives ∙ ap (ok b.value) long);
              holds = b.holds;
            };
      }

  pub pure-takes : {A : Type 0} {P : A → Type 0} (a : A) → P a → Takes (pure a) [] P
  unfolding pure
  pure-takes a h =
      record { go = λ at r e. record { value = a; gives = ap (ok a) (sym (add-zero at)); holds = h } }

  pub number-takes : (k n : ℕ) → n < 256 ^ k → Takes (number k) (bytes_of k n) (λ m. m ≡ n)
  number-takes k n b =
      record {
        go = λ at r h.
            let l : at + k ≤ length s = omega (arith, ends-inside at (bytes_of k n) r h, length-bytes_of k n) in
            let e : take k (drop at s) ≡ bytes_of k n =
            rw h.here (take_at (bytes_of k n) r k (length-bytes_of k n)) in
            record {
              value = n;
              gives = rw length-bytes_of (whole k s at l ∙ rw (e, number_back k n b));
              holds = refl;
            };
      }

  pub bytes-takes : (d : List ℕ) (n : ℕ) → n ≡ length d → Takes (bytes n) d (λ p. bytes_at s p ≡ d)
  bytes-takes d n e =
      record {
        go = λ at r h.
            record {
              value = record { start = at; len = length d };
              gives = rw e (bytes_whole (length d) s at (ends-inside at d r h));
              holds = rw h.here (take-append_seam d r);
            };
      }

  pub text-takes : (t : List ℕ) → NoZero t → Takes text (t ++ 0 ∷ []) (λ p. bytes_at s p ≡ t)
  unfolding text
  text-takes t z =
      record {
        go = λ at r h.
            let here : drop at s ≡ t ++ 0 ∷ r = h.here ∙ append_assoc t (0 ∷ []) r in
            let long : at + length (t ++ 0 ∷ []) ≡ at + (length t + 1) =
            omega (arith, length-append t (0 ∷ [])) in
            record {
              value = record { start = at; len = length t };
              gives = rw (here, text_back t r z, long);
              holds = rw here (take-append_seam t (0 ∷ r));
            };
      }

  pub utf8-takes : (p : Place) → utf8 (bytes_at s p) ≡ true → Takes (must_be_utf8 p) [] (λ q. q ≡ p)
  unfolding must_be_utf8
  utf8-takes p u =
      record {
        go = λ at r h. record { value = p; gives = rw u (ap (ok p) (sym (add-zero at))); holds = refl };
      }

  -- a text that is UTF-8 passes
  pub checked : {p : Reader Place} {e : List ℕ} (t : List ℕ) → utf8 t ≡ true
      → Takes p e (λ a. bytes_at s a ≡ t) → Takes (p >>= must_be_utf8) e (λ a. bytes_at s a ≡ t)
  unfolding ◌>>=◌ must_be_utf8
  checked t u i =
      record {
        go = λ at r h. let a = i.go at r h in
            record { value = a.value; gives = rw (a.gives, a.holds, u); holds = a.holds };
      }

  pub word-takes : (t : List ℕ) → Word t → Takes utf8_text (t ++ 0 ∷ []) (λ a. bytes_at s a ≡ t)
  unfolding utf8_text
  word-takes t w = checked t w.spelled (text-takes t w.free)

-- WHATEVER IS READ
abbrev pub Of : {A : Type 0} → (A → Type 0) → Got A → Type 0
Of P (ok a to) = P a
Of P (no n) = Unit {0}

by_test : {A : Type 0} (P : A → Type 0) (b : Bool) {x y : A} → (b ≡ true → P x) → (b ≡ false → P y)
    → P (cond b x y)
by_test P true f g = f refl
by_test P false f g = g refl

module _ (s : List ℕ) where
  pub record Only {A : Type 0} (p : Reader A) (P : A → Type 0) : Type 0 where
    pub at_all : (at : ℕ) → Of P (p s at)

  follow-only : {A B : Type 0} (P : A → Type 0) (Q : B → Type 0) (g : Got A) (k : A → ℕ → Got B) → Of P g
      → ((a : A) → P a → (to : ℕ) → Of Q (k a to)) → Of Q (follow g k)
  follow-only P Q (ok a to) k h f = f a h to
  follow-only P Q (no n) k h f = tt

  pub then-only : {A B : Type 0} {p : Reader A} {P : A → Type 0} {Q : B → Type 0} (q : A → Reader B)
      → Only p P → ((a : A) → P a → Only (q a) Q) → Only (p >>= q) Q
  unfolding ◌>>=◌
  then-only {p = p} {P = P} {Q = Q} q i k =
      record {
        at_all = λ at. follow-only P Q (p s at) (λ a to. q a s to) (i.at_all at)
            (λ a h to. (k a h).at_all to);
      }

  pub pure-only : {A : Type 0} {Q : A → Type 0} (a : A) → Q a → Only (pure a) Q
  unfolding pure
  pure-only a h = record { at_all = λ at. h }

  -- what a call answers, where the value of a refusal passes too
  of-value : {A : Type 0} (P : A → Type 0) (d : A) (g : Got A) → P d → Of P g → P (value_of d g)
  of-value P d (ok a to) h o = o
  of-value P d (no n) h o = h

  of-cursor : {A : Type 0} (P : A → Type 0) (d : A) (p : Reader A) (c : ByteReader) → P d → Only p P
      → P (value_from d p s c)
  unfolding value_from
  of-cursor P d p (At at) h o = of-value P d (p s at) h (o.at_all at)
  of-cursor P d p (Refused n) h o = h

  pub reads_only : {A : Type 0} {P : A → Type 0} {d : A} {p : Reader A} {c n : ByteReader} {a : A} → P d
      → Only p P → Reads d p s c a n → P a
  reads_only {P = P} {d = d} {p = p} {c = c} h o r = subst P (sym r.value-is) (of-cursor P d p c h o)

  -- counted bytes end in the file, and are no more than asked for
  pub bytes-only : (n : ℕ) → Only (bytes n) (λ p. Inside s p × (p.len ≤ n))
  unfolding bytes
  bytes-only n =
      record {
        at_all = λ at. by_test (Of (λ (p : Place). Inside s p × (p.len ≤ n)))
            (leb (at + n) (length s)) (λ e. (leb-true _ _ e, omega arith)) (λ e. tt);
      }

  -- a text ends in the file and holds no 00
  of-text : (at : ℕ) (o : Option ℕ) → up_to00 (drop at s) ≡ o
      → Of (λ (p : Place). Inside s p × NoZero (bytes_at s p)) (ended at o)
  of-text at none e = tt
  of-text at (some n) e = let t = text_is (drop at s) n e in
      (omega (arith, t.inside, length-drop at s), t.free)

  pub text-only : Only text (λ p. Inside s p × NoZero (bytes_at s p))
  unfolding text
  text-only = record { at_all = λ at. of-text at (up_to00 (drop at s)) refl }

  pub utf8-only : (p : Place) → Only (must_be_utf8 p) (λ q. (q ≡ p) × (utf8 (bytes_at s q) ≡ true))
  unfolding must_be_utf8
  utf8-only p =
      record {
        at_all = λ at. by_test (Of (λ (q : Place). (q ≡ p) × (utf8 (bytes_at s q) ≡ true)))
            (utf8 (bytes_at s p)) (λ e. (refl, e)) (λ e. tt);
      }
