-- A run of bytes as it is framed in a program's input (`parts` of tools/evf.py): the lengths and the count
-- first, then the three parts. Definitions only.
use Rattle.std.specs.Prelude.{ℕ, List}
use Rattle.text.specs.Places.{bytes_at}
use Rattle.byte_reader.specs.Reading.{Reader, ◌>>=◌, pure}
use Rattle.byte_reader.specs.Numbers.{number}
use Rattle.byte_reader.specs.Fields.{bytes}
use Rattle.framing.specs.declared.Parts.{Parts}
use Rattle.framing.specs.Expanding.{expanded}

unfoldable pub frame : Reader Parts
frame = do
  first ← number 4
  unit ← number 1
  times ← number 4
  last ← number 4
  p ← bytes first
  u ← bytes unit
  q ← bytes last
  pure (record { first = p; unit = u; times = times; last = q })

-- the bytes that a frame stands for
abbrev pub expanded_at : List ℕ → Parts → List ℕ
expanded_at input parts =
    expanded (bytes_at input parts.first) (bytes_at input parts.unit) parts.times
    (bytes_at input parts.last)
