-- What a field read from a cursor gives, by the cursor's case and the field's; and the laws by which a chain
-- of reads is one read. Assumes nothing.
--     reads_then     two reads in a row
--     gives_then     the same, whatever stands in a value that was refused
--     gives-read     a read whose value behind a refusal is known
--     read-given     and back: the value and the cursor of what was read to its end
--     read_no        and of what was refused
--     read_at        what was read from a place, by the cursor behind it
--     read-not       what was refused there
use mathlib.Core.Path.{◌≡◌, refl, sym, ap, ◌∙◌}
use mathlib.Core.Bool.{Bool, true, false, cond}
use mathlib.Core.List.{List}
use Prim.Native.Nat.{ℕ}
use Rattle.byte_reader.specs.declared.ByteReader.{ByteReader}
use Rattle.byte_reader.specs.declared.ByteReader.TheVariants.{At, Refused}
use Rattle.byte_reader.specs.Reading.{Got, Reader, ok, no, follow, ◌>>=◌, pure, refuse, refuse_when}
use Rattle.byte_reader.specs.Cursor.{value_of, cursor_of, value_from, cursor_after, Reads, Gives, refused_if}

module _ {A : Type 0} (d : A) (p : Reader A) (file : List ℕ) (c : ByteReader) where
  pub read-value : (at : ℕ) (a : A) (to : ℕ) → c ≡ At at → p file at ≡ ok a to → Reads d p file c a (At to)
  unfolding value_from cursor_after
  read-value at a to e g = record { value-is = rw (e, g); next-is = rw (e, g) }

  pub read-refused : (at n : ℕ) → c ≡ At at → p file at ≡ no n → Reads d p file c d (Refused n)
  unfolding value_from cursor_after
  read-refused at n e g = record { value-is = rw (e, g); next-is = rw (e, g) }

  pub refused-before : (n : ℕ) → c ≡ Refused n → Reads d p file c d (Refused n)
  unfolding value_from cursor_after
  refused-before n e = record { value-is = rw e; next-is = rw e }

-- two reads in a row, whatever the first one's value is where it refused
module _ {A B : Type 0} (d : A) (p : Reader A) (q : A → Reader B) (file : List ℕ) where
  cursor-follows : (g : Got A)
      → cursor_of (follow g (λ a to. q a file to)) ≡ cursor_after (q (value_of d g)) file (cursor_of g)
  unfolding cursor_after
  cursor-follows (ok a to) = refl
  cursor-follows (no n) = refl

  value-follows : (e : B) (g : Got A)
      → value_of e (follow g (λ a to. q a file to)) ≡ value_from e (q (value_of d g)) file (cursor_of g)
  unfolding value_from
  value-follows e (ok a to) = refl
  value-follows e (no n) = refl

  pub then-cursor : (c : ByteReader)
      → cursor_after (p >>= q) file c ≡ cursor_after (q (value_from d p file c)) file (cursor_after p file c)
  unfolding value_from cursor_after ◌>>=◌
  then-cursor (At at) = cursor-follows (p file at)
  then-cursor (Refused n) = refl

  pub then-value : (e : B) (c : ByteReader)
      → value_from e (p >>= q) file c ≡ value_from e (q (value_from d p file c)) file (cursor_after p file c)
  unfolding value_from cursor_after ◌>>=◌
  then-value e (At at) = value-follows e (p file at)
  then-value e (Refused n) = refl

  -- the same of what two calls answer
  pub reads_then : {e : B} {c : ByteReader} {a : A} {b : B} {m n : ByteReader} → Reads d p file c a m
      → Reads e (q a) file m b n → Reads e (p >>= q) file c b n
  reads_then {e} {c} r t =
      record {
        value-is = t.value-is ∙ rw (r.value-is, r.next-is) (sym (then-value e c));
        next-is = t.next-is ∙ rw (r.value-is, r.next-is) (sym (then-cursor c));
      }

-- a refusal that reads nothing
refusal : (at n : ℕ) (bad : Bool) → cursor_of (cond bad (no n) (ok (tt {0}) at)) ≡ cond bad (Refused n) (At at)
refusal at n true = refl
refusal at n false = refl

pub refuse_when_lem : (bad : Bool) (n : ℕ) (file : List ℕ) (c : ByteReader)
    → cursor_after (refuse_when bad n) file c ≡ refused_if c bad n
unfolding cursor_after refuse_when refused_if
refuse_when_lem bad n file (At at) = refusal at n bad
refuse_when_lem bad n file (Refused m) = refl

-- WHERE THE VALUE BEHIND A REFUSAL DOES NOT MATTER
module _ {A B : Type 0} {p : Reader A} (q : A → Reader B) {file : List ℕ} {c : ByteReader} {a : A}
    {m : ByteReader} where
  pub gives_then : {b : B} {n : ByteReader} → Gives p file c a m → Gives (q a) file m b n
      → Gives (p >>= q) file c b n
  gives_then g h = reads_then a p q file g h

value_anyway : {A : Type 0} (d : A) (g : Got A) → value_of d g ≡ value_of (value_of d g) g
value_anyway d (ok a to) = refl
value_anyway d (no n) = refl

read_anyway : {A : Type 0} (d : A) (p : Reader A) (file : List ℕ) (c : ByteReader)
    → value_from d p file c ≡ value_from (value_from d p file c) p file c
unfolding value_from
read_anyway d p file (At at) = value_anyway d (p file at)
read_anyway d p file (Refused n) = refl

module _ {A : Type 0} {file : List ℕ} where
  pub gives-read : {d : A} {p : Reader A} {c : ByteReader} {a : A} {n : ByteReader} → Reads d p file c a n
      → Gives p file c a n
  gives-read {d} {p} {c} r =
      record { value-is = rw r.value-is (read_anyway d p file c); next-is = r.next-is }

  pure-from : (a : A) (c : ByteReader) → Gives (pure a) file c a c
  unfolding value_from cursor_after pure
  pure-from a (At at) = record { value-is = refl; next-is = refl }
  pure-from a (Refused n) = record { value-is = refl; next-is = refl }

  pub gives-pure : {a : A} {c : ByteReader} → Gives (pure a) file c a c
  gives-pure {a} {c} = pure-from a c

  -- a refusal, whatever the value
  pub gives-no : (n : ℕ) (a : A) (c : ByteReader) → Gives (refuse n) file c a (refused_if c true n)
  unfolding value_from cursor_after refuse refused_if
  gives-no n a (At at) = record { value-is = refl; next-is = refl }
  gives-no n a (Refused m) = record { value-is = refl; next-is = refl }

pub gives_when : {file : List ℕ} (bad : Bool) (n : ℕ) {c m : ByteReader} → m ≡ refused_if c bad n
    → Gives (refuse_when bad n) file c (tt {0}) m
gives_when {file} bad n {c} e = record { value-is = refl; next-is = e ∙ sym (refuse_when_lem bad n file c) }

-- WHAT WAS READ FROM A PLACE, by the cursor behind it
module _ {A : Type 0} where
  given : A → ByteReader → Got A
  given a (At to) = ok a to
  given a (Refused n) = no n

  given-got : (d : A) (g : Got A) → given (value_of d g) (cursor_of g) ≡ g
  unfolding given
  given-got d (ok a to) = refl
  given-got d (no n) = refl

  module _ {d : A} {p : Reader A} {file : List ℕ} {at : ℕ} {a : A} {n : ByteReader}
      (r : Reads d p file (At at) a n) where
    read_is : given a n ≡ p file at
    unfolding value_from cursor_after
    read_is = rw (r.value-is, r.next-is) (given-got d (p file at))

    pub read_at : (to : ℕ) → n ≡ At to → p file at ≡ ok a to
    unfolding given
    read_at to e = sym read_is ∙ ap (given a) e

    pub read-not : (why : ℕ) → n ≡ Refused why → p file at ≡ no why
    unfolding given
    read-not why e = sym read_is ∙ ap (given a) e

    pub read-given : (e : A) (to : ℕ) → n ≡ At to → Reads e p file (At at) a n
    unfolding value_from cursor_after
    read-given e to h = record { value-is = rw (read_at to h); next-is = rw (read_at to h) h }

    pub read_no : (e : A) (why : ℕ) → n ≡ Refused why → Reads e p file (At at) e n
    unfolding value_from cursor_after
    read_no e why h = record { value-is = rw (read-not why h); next-is = rw (read-not why h) h }
