-- A long run of bytes, and what putting it into a buffer leaves. Definitions only.
use Rattle.std.specs.Prelude.{ℕ, zero, suc, ◌≡◌, cond, List, [], ◌++◌, length, leb}
use Rattle.std.proofs.lemmas.List.Edits.{sets}

-- a unit, so often
abbrev pub repeated : ℕ → List ℕ → List ℕ
repeated zero unit = []
repeated (suc n) unit = repeated n unit ++ unit

-- a first part, a unit so often, a last part
abbrev pub expanded : (first unit : List ℕ) → (times : ℕ) → (last : List ℕ) → List ℕ
expanded first unit times last = first ++ (repeated times unit ++ last)

-- what of the bytes goes into a buffer: all, or nothing where it has not the room
unfoldable pub fitting : (out bytes : List ℕ) → List ℕ
fitting out bytes = cond (leb (length bytes) (length out)) bytes []

-- the buffer before, the bytes, the buffer after, and the answer: how many bytes were put at the buffer's
-- start
pub record Put (out bytes exit : List ℕ) (r : ℕ) : Type 0 where
  pub bytes_are : exit ≡ sets out 0 (fitting out bytes)
  pub count_is : r ≡ length (fitting out bytes)
