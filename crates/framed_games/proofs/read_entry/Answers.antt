-- `framed_games::read_entry` meets its contract: its fields in a row.
-- Assumes nothing.
use borrow.Author.Rules.{rules}
use Rattle.byte_reader.proofs.Cursor.{gives_then, gives-read, gives-pure}
use Rattle.framed_games.specs.Games.{entry}
use Rattle.framed_games.proofs.read_entry.Goals as goal

pub returns : goal.returns
unfolding entry
returns c =
    rw (c.event_of-e.ensures, c.float_of.ensures) (search (rules, gives_then, gives-read, gives-pure) depth 9)
