-- How a case of a leaf function lies in a program's input behind its tag. What is read is used up, so that
-- only the place behind it is told. Definitions only.
use Rattle.byte_reader.specs.Reading.{Reader, ◌>>=◌, pure}
use Rattle.byte_reader.specs.Numbers.{number}
use Rattle.byte_reader.specs.Fields.{bytes}

-- the sort, and so many bytes
unfoldable pub leaf_case : Reader (Unit {0})
leaf_case = do
  _ ← number 1
  n ← number 2
  _ ← bytes n
  pure tt
