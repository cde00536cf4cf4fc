-- How a case of upgrading or re-saving lies in a program's input behind its tag. What is read is used up, so
-- that only the place behind it is told. Definitions only.
use Rattle.byte_reader.specs.Reading.{Reader, ◌>>=◌, pure}
use Rattle.byte_reader.specs.Numbers.{number}
use Rattle.framing.specs.Frames.{frame}

-- the bytes lent for the copy, the file
unfoldable pub copying_case : Reader (Unit {0})
copying_case = do
  _ ← number 4
  _ ← frame
  pure tt
