-- How the cases of playing lie in a program's input behind their tags. What is read is used up, so that only
-- the place behind it is told. Definitions only.
use Rattle.byte_reader.specs.Reading.{Reader, ◌>>=◌, pure}
use Rattle.byte_reader.specs.Numbers.{number}
use Rattle.framing.specs.Frames.{frame}
use Rattle.framed_games.specs.Layout.{row_head, row_bytes}

-- the height, the width, the pixels of a cell, the entries lent for the cells, what stands in each before
unfoldable pub asked_fields : Reader (Unit {0})
asked_fields = do
  _ ← number 8
  _ ← number 8
  _ ← number 1
  _ ← number 4
  _ ← number 2
  pure tt

-- those fields, the board, the row
unfoldable pub play_case : Reader (Unit {0})
play_case = do
  _ ← asked_fields
  _ ← frame
  n ← row_head
  row_bytes n

-- the height, the width, the layout
unfoldable pub small_case : Reader (Unit {0})
small_case = do
  _ ← number 1
  _ ← number 1
  _ ← number 2
  pure tt
