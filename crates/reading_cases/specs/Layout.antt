-- How a case of reading lies in a program's input behind its tag. What is read is used up, so that only the
-- place behind it is told. Definitions only.
use Rattle.byte_reader.specs.Reading.{Reader, ◌>>=◌, pure}
use Rattle.byte_reader.specs.Numbers.{number}
use Rattle.framing.specs.Frames.{frame}

-- the cells and the entries lent, the file
unfoldable pub reading_case : Reader (Unit {0})
reading_case = do
  _ ← number 2
  _ ← number 2
  _ ← frame
  pure tt
