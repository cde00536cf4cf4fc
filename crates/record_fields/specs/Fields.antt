-- What the event records of all versions share (01, Events). Definitions only.
use Rattle.std.specs.Prelude.{ℕ, Bool, List, take, drop}
use Rattle.game.specs.declared.MouseKind.{MouseKind}
use Rattle.byte_reader.specs.Reading.{Reader, ◌>>=◌, pure}
use Rattle.byte_reader.specs.Numbers.{big_endian, number}

-- the number in the k bytes from a place
abbrev pub field : ℕ → List ℕ → ℕ → ℕ
field k file at = big_endian (take k (drop at file))

-- a record that is the end or an event by itself: every record of versions 0 to 3, and the first of version 4
pub data Whole : Type 0 where
  ends : (checksum : Bool) → Whole
  mouse : MouseKind → (ms x y : ℕ) → Whole

-- what stands behind a mouse event's code, with milliseconds of k bytes
unfoldable pub mouse_body : ℕ → MouseKind → Reader Whole
mouse_body k kind = do
  ms ← number k
  x ← number 2
  y ← number 2
  pure (mouse kind ms x y)
