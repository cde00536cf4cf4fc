-- How a case of writing lies in a program's input behind its tag. What is read is used up, so that only the
-- place behind it is told. Definitions only.
use Rattle.byte_reader.specs.Reading.{Reader, ◌>>=◌}
use Rattle.byte_reader.specs.Numbers.{number}
use Rattle.framing.specs.Frames.{frame}
use Rattle.framed_games.specs.Layout.{header_fields, row_head, row_bytes}

-- the bytes lent for the file in version 3 and in version 4, the header, the lent bytes, the board, the row
unfoldable pub writing_case : Reader (Unit {0})
writing_case = do
  _ ← number 4
  _ ← number 4
  _ ← header_fields
  _ ← frame
  _ ← frame
  n ← row_head
  row_bytes n
