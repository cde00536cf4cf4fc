-- The cursor of the code, which keeps the first refusal: a field read from a cursor gives a value and the
-- next cursor. Definitions only.
use Rattle.std.specs.Prelude.{ℕ, ◌≡◌, Bool, cond, List}
use Rattle.byte_reader.specs.declared.ByteReader.{ByteReader}
use Rattle.byte_reader.specs.declared.ByteReader.TheVariants.{At, Refused}
use Rattle.byte_reader.specs.Reading.{Got, Reader, ok, no}

module _ {A : Type 0} where
  abbrev pub value_of : A → Got A → A
  value_of d (ok a to) = a
  value_of d (no n) = d

  abbrev pub cursor_of : Got A → ByteReader
  cursor_of (ok a to) = At to
  cursor_of (no n) = Refused n

  -- the value, d where it is refused
  unfoldable pub value_from : A → Reader A → List ℕ → ByteReader → A
  value_from d p file (At at) = value_of d (p file at)
  value_from d p file (Refused n) = d

  -- the cursor after the field
  unfoldable pub cursor_after : Reader A → List ℕ → ByteReader → ByteReader
  cursor_after p file (At at) = cursor_of (p file at)
  cursor_after p file (Refused n) = Refused n

  -- what reading the field p from the cursor c answers
  pub record Reads (d : A) (p : Reader A) (file : List ℕ) (c : ByteReader) (value : A)
      (next : ByteReader) : Type 0 where
    pub value-is : value ≡ value_from d p file c
    pub next-is : next ≡ cursor_after p file c

  -- the same where it does not matter what the value is behind a refusal
  abbrev pub Gives : Reader A → List ℕ → ByteReader → A → ByteReader → Type 0
  Gives p file c value next = Reads value p file c value next

-- a cursor that has not refused refuses what is bad
unfoldable pub refused_if : ByteReader → Bool → ℕ → ByteReader
refused_if (At at) bad n = cond bad (Refused n) (At at)
refused_if (Refused m) bad n = Refused m
