-- How a case of strings lies in a program's input behind its tag. What is read is used up, so that only the
-- place behind it is told. Definitions only.
use Rattle.byte_reader.specs.Reading.{Reader, ◌>>=◌, pure}
use Rattle.byte_reader.specs.Numbers.{number}

-- the length of the strings
unfoldable pub strings_case : Reader (Unit {0})
strings_case = do
  _ ← number 1
  pure tt
