-- How a game lies in a program's input, field by field. What is read is used up, so that only the place
-- behind it is told. Definitions only.
use Rattle.std.specs.Prelude.{ℕ, zero, suc, ◌*◌}
use Rattle.byte_reader.specs.Reading.{Reader, ◌>>=◌, pure}
use Rattle.byte_reader.specs.Numbers.{number}
use Rattle.byte_reader.specs.Fields.{bytes}

-- the eight flags, the high bit first
unfoldable pub flags_field : Reader (Unit {0})
flags_field = do
  _ ← number 1
  pure tt

-- height, width, mines, 3BV, the pixels of a cell, the mode
unfoldable pub sizes_fields : Reader (Unit {0})
sizes_fields = do
  _ ← number 8
  _ ← number 8
  _ ← number 8
  _ ← number 8
  _ ← number 1
  _ ← number 2
  pure tt

-- the time, the start, the end
unfoldable pub times_fields : Reader (Unit {0})
times_fields = do
  _ ← number 4
  _ ← number 8
  _ ← number 8
  pure tt

-- the game's own version, its level, the mines found
unfoldable pub other_fields : Reader (Unit {0})
other_fields = do
  _ ← number 1
  _ ← number 1
  _ ← number 8
  pure tt

-- so many places, start and length each
unfoldable pub places : ℕ → Reader (Unit {0})
places zero = pure tt
places (suc n) = do
  _ ← places n
  _ ← number 8
  _ ← number 8
  pure tt

-- the place of the custom metrics, their count
unfoldable pub metrics_fields : Reader (Unit {0})
metrics_fields = do
  _ ← number 8
  _ ← number 8
  _ ← number 2
  pure tt

-- a whole header
unfoldable pub header_fields : Reader (Unit {0})
header_fields = do
  _ ← flags_field
  _ ← sizes_fields
  _ ← times_fields
  _ ← other_fields
  _ ← places 9
  metrics_fields

-- the bytes taken to be counted before the row, and how many entries it has
unfoldable pub row_head : Reader ℕ
row_head = do
  _ ← number 8
  n ← number 4
  pure n

-- the bytes of an entry of the row
abbrev pub entry_bytes : ℕ
entry_bytes = 13

-- so many entries
unfoldable pub row_bytes : ℕ → Reader (Unit {0})
row_bytes n = do
  _ ← bytes (n * entry_bytes)
  pure tt
