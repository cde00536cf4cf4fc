-- What is sure of a reader, whatever the file: P of all that it reads, and that it refuses with 1 to 7 only.
-- One law a field, and one for fields in a row. Assumes nothing.
use Prim.Native.Nat.{ℕ, zero, suc, ◌+◌, ◌^◌, ◌≤◌, ◌<◌}
use mathlib.Core.Path.{◌≡◌, refl}
use mathlib.Core.Bool.{Bool, true, false, cond}
use mathlib.Core.List.{List}
use mathlib.Core.Option.{Option, none, some}
use native.Mathlib.Numerals.{add-one}
use native.Mathlib.Omega.{arith}
use lib.ListN.{length, take, drop}
use lib.Dec.{leb}
use borrow.Author.Tests.{leb-true}
use Rattle.text.specs.declared.Place.{Place}
use Rattle.text.specs.Places.{bytes_at, Inside}
use Rattle.text.specs.Bytes.{NoZero}
use Rattle.text.specs.Ends.{up_to00}
use Rattle.text.specs.Utf8.{utf8}
use Rattle.byte_reader.specs.Reading.{Bytes, Got, Reader, ok, no, follow, ◌>>=◌, pure, refuse, refuse_when}
use Rattle.byte_reader.specs.Numbers.{big_endian, number}
use Rattle.byte_reader.specs.Fields.{bytes, counted_bytes, ended, text, must_be_utf8, utf8_text, utf8_bytes}
use Rattle.byte_reader.proofs.Numbers.{one_more_lem, grown}
use Rattle.byte_reader.proofs.Laws.{Of, text-only}
use Rattle.header_fields.specs.Fields.{contents}

-- the numbers of the refusals before the first event record
abbrev pub Early : ℕ → Type 0
Early n = (1 ≤ n) × (n ≤ 7)

abbrev pub SureOf : {A : Type 0} → (A → Type 0) → Got A → Type 0
SureOf P (ok a to) = P a
SureOf P (no n) = Early n

pub record Sure (s : List ℕ) {A : Type 0} (p : Reader A) (P : A → Type 0) : Type 0 where
  pub at_all : (at : ℕ) → SureOf P (p s at)

-- a test that reads or refuses
reads_or : {A : Type 0} (P : A → Type 0) (t : Bool) (a : A) (to n : ℕ) → (t ≡ true → P a) → Early n
    → SureOf P (cond t (ok a to) (no n))
reads_or P true a to n f e = f refl
reads_or P false a to n f e = e

module _ (s : List ℕ) where
  -- ---- in a row
  follow-sure : {A B : Type 0} (P : A → Type 0) (Q : B → Type 0) (g : Got A) (k : A → ℕ → Got B) → SureOf P g
      → ((a : A) → P a → (to : ℕ) → SureOf Q (k a to)) → SureOf Q (follow g k)
  follow-sure P Q (ok a to) k h f = f a h to
  follow-sure P Q (no n) k h f = h

  pub sure-then : {A B : Type 0} {p : Reader A} {P : A → Type 0} {Q : B → Type 0} (q : A → Reader B)
      → Sure s p P → ((a : A) → P a → Sure s (q a) Q) → Sure s (p >>= q) Q
  unfolding ◌>>=◌
  sure-then {p = p} {P = P} {Q = Q} q i k =
      record {
        at_all = λ at. follow-sure P Q (p s at) (λ a to. q a s to) (i.at_all at)
            (λ a h to. (k a h).at_all to);
      }

  pub sure-pure : {A : Type 0} {Q : A → Type 0} (a : A) → Q a → Sure s (pure a) Q
  unfolding pure
  sure-pure a h = record { at_all = λ at. h }

  weaken-of : {A : Type 0} (P Q : A → Type 0) (g : Got A) → ((a : A) → P a → Q a) → SureOf P g → SureOf Q g
  weaken-of P Q (ok a to) f h = f a h
  weaken-of P Q (no n) f h = h

  pub sure-weaken : {A : Type 0} {p : Reader A} {P Q : A → Type 0} → Sure s p P → ((a : A) → P a → Q a)
      → Sure s p Q
  sure-weaken {p = p} {P = P} {Q = Q} i f = record { at_all = λ at. weaken-of P Q (p s at) f (i.at_all at) }

  -- a test that picks the field
  pub sure-if : {A : Type 0} {P : A → Type 0} (t : Bool) (p q : Reader A) → (t ≡ true → Sure s p P)
      → (t ≡ false → Sure s q P) → Sure s (cond t p q) P
  sure-if true p q f g = f refl
  sure-if false p q f g = g refl

  -- ---- what reads nothing
  pub sure-refuse : {A : Type 0} {P : A → Type 0} (n : ℕ) → Early n → Sure s (refuse n) P
  unfolding refuse
  sure-refuse n e = record { at_all = λ at. e }

  when-of : (bad : Bool) (n : ℕ) → Early n → (at : ℕ) → SureOf (λ u. bad ≡ false) (refuse_when bad n s at)
  unfolding refuse_when
  when-of true n e at = e
  when-of false n e at = refl

  pub sure-when : (bad : Bool) (n : ℕ) → Early n → Sure s (refuse_when bad n) (λ u. bad ≡ false)
  sure-when bad n e = record { at_all = when-of bad n e }

  pub sure-contents : (p : Place) → Sure s (contents p) (λ l. l ≡ bytes_at s p)
  unfolding contents
  sure-contents p = record { at_all = λ at. refl }

  -- ---- counted bytes and texts
  pub sure-bytes : (n : ℕ) → Sure s (bytes n) (λ p. Inside s p × (p.len ≡ n))
  unfolding bytes
  sure-bytes n =
      record {
        at_all = λ at. reads_or (λ (p : Place). Inside s p × (p.len ≡ n)) (leb (at + n) (length s))
            (record { start = at; len = n }) (at + n) 1 (λ e. (leb-true _ _ e, refl)) (omega arith);
      }

  -- a text holds no 00
  abbrev pub Text : Place → Type 0
  Text p = Inside s p × NoZero (bytes_at s p)

  text_of : (at : ℕ) (o : Option ℕ) → Of Text (ended at o) → SureOf Text (ended at o)
  text_of at none h = omega arith
  text_of at (some n) h = h

  pub sure-text : Sure s text Text
  unfolding text
  sure-text = record { at_all = λ at. text_of at (up_to00 (drop at s)) ((text-only s).at_all at) }

  utf8-of : {P : Place → Type 0} (p : Place) → P p
      → Sure s (must_be_utf8 p) (λ q. P q × (utf8 (bytes_at s q) ≡ true))
  unfolding must_be_utf8
  utf8-of {P} p h =
      record {
        at_all = λ at. reads_or (λ (q : Place). P q × (utf8 (bytes_at s q) ≡ true))
            (utf8 (bytes_at s p)) p at 3 (λ e. (h, e)) (omega arith);
      }

  abbrev pub Utf8 : Place → Type 0
  Utf8 p = Text p × (utf8 (bytes_at s p) ≡ true)

  pub sure-utf8-text : Sure s utf8_text Utf8
  unfolding utf8_text
  sure-utf8-text = sure-then must_be_utf8 sure-text (λ p h. utf8-of p h)

  pub sure-utf8-bytes : (n : ℕ)
      → Sure s (utf8_bytes n) (λ p. (Inside s p × (p.len ≡ n)) × (utf8 (bytes_at s p) ≡ true))
  unfolding utf8_bytes
  sure-utf8-bytes n = sure-then must_be_utf8 (sure-bytes n) (λ p h. utf8-of p h)

  -- ---- numbers, one law for every width
  module _ (small : Bytes s) where
    fits : (k at : ℕ) → at + k ≤ length s → big_endian (take k (drop at s)) < 256 ^ k
    unfolding big_endian
    fits zero at h = omega arith
    fits (suc k) at h =
        let e = one_more_lem s at k (omega arith) in
        rw (← add-one k) (rw e (grown _ k _ (fits k at (omega arith)) (small (at + k))))

    pub sure-number : (k : ℕ) → Sure s (number k) (λ n. n < 256 ^ k)
    unfolding number
    sure-number k =
        record {
          at_all = λ at. reads_or (λ (n : ℕ). n < 256 ^ k) (leb (at + k) (length s))
              (big_endian (take k (drop at s))) (at + k) 1 (λ e. fits k at (leb-true _ _ e)) (omega arith);
        }

    pub sure-counted : Sure s counted_bytes (λ p. Inside s p × (p.len < 65536))
    unfolding counted_bytes
    sure-counted = sure-then bytes (sure-number 2)
        (λ n l. sure-weaken (sure-bytes n) (λ p h. (h.0, rw h.1 l)))
