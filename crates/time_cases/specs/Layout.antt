-- How a case of milliseconds lies in a program's input behind its tag. What is read is used up, so that only
-- the place behind it is told. Definitions only.
use Rattle.byte_reader.specs.Reading.{Reader, ◌>>=◌, pure}
use Rattle.byte_reader.specs.Numbers.{number}

-- the first number and the last
unfoldable pub milliseconds_case : Reader (Unit {0})
milliseconds_case = do
  _ ← number 4
  _ ← number 4
  pure tt
