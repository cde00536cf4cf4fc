-- `framed_games::read_places` meets its contract: so many places are behind the cursor as were read.
-- Assumes nothing.
use Rattle.byte_reader.specs.Cursor.{Gives}
use Rattle.framed_games.specs.Layout.{places}
use Rattle.framed_games.proofs.read_places.Given as goal

abbrev pub invariant-loop-place : goal.invariant-loop-place
invariant-loop-place l = Gives (places l.place-index) l.input l.from.next tt l.c
