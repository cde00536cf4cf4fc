-- `framed_games::read_others` meets its contract: its fields in a row.
-- Assumes nothing.
use borrow.Author.Rules.{rules}
use Rattle.byte_reader.proofs.Cursor.{gives_then, gives-read, gives-pure}
use Rattle.framed_games.specs.Layout.{other_fields}
use Rattle.framed_games.proofs.read_others.Goals as goal

pub returns : goal.returns
unfolding other_fields
returns c = search (rules, gives_then, gives-read, gives-pure)
