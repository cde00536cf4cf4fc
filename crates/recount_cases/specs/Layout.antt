-- How a case of recounting lies in a program's input behind its tag. What is read is used up, so that only
-- the place behind it is told. Definitions only.
use Rattle.byte_reader.specs.Reading.{Reader, ◌>>=◌, pure}
use Rattle.byte_reader.specs.Numbers.{number}
use Rattle.framing.specs.Frames.{frame}

-- the height, the width, the entries lent for the working buffer, the cells
unfoldable pub recount_case : Reader (Unit {0})
recount_case = do
  _ ← number 8
  _ ← number 8
  _ ← number 4
  _ ← frame
  pure tt
