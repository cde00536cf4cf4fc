-- Writing fields one behind the other, and how long they are together: what the writers' functions promise.
-- Definitions only.
use Rattle.std.specs.Prelude.{ℕ, ◌+◌, min, ◌≡◌, Bool, ◌&&◌, ◌||◌, not, List, leb, ltb, length}
use Rattle.std.proofs.lemmas.List.Edits.{sets}
use Rattle.byte_writer.specs.declared.Length.{Length}

-- the largest usize (01, Refusal 23)
abbrev pub most : ℕ
most = 18446744073709551615

-- a number, or the largest usize where it is more
abbrev pub capped : ℕ → ℕ
capped n = min n most

-- The bytes e went into the buffer d from `at` on, which left d'; what lies past d's end was dropped. `to` is
-- the place behind them, capped at the largest usize. A buffer of the code is no longer than that, so nothing
-- can be written at the capped place, and nothing could at the true one.
pub record Writes (d d' : List ℕ) (at : ℕ) (e : List ℕ) (to : ℕ) : Type 0 where
  pub is : d' ≡ sets d at e
  pub next : to ≡ capped (at + length e)

-- a number of bytes, capped, and whether it passes the largest usize
abbrev pub length_of : ℕ → Length
length_of n = record { bytes = capped n; over = ltb most n }

-- so many more
unfoldable pub plus_of : Length → ℕ → Length
plus_of l n = record { bytes = capped (l.bytes + n); over = l.over || ltb most (l.bytes + n) }

-- there is room for them
unfoldable pub fits_in : Length → ℕ → Bool
fits_in l room = not l.over && leb l.bytes room
