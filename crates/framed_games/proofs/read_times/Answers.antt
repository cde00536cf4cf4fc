-- `framed_games::read_times` meets its contract: its fields in a row.
-- Assumes nothing.
use borrow.Author.Rules.{rules}
use Rattle.byte_reader.proofs.Cursor.{gives_then, gives-read, gives-pure}
use Rattle.framed_games.specs.Layout.{times_fields}
use Rattle.framed_games.proofs.read_times.Goals as goal

pub returns : goal.returns
unfolding times_fields
returns c = search (rules, gives_then, gives-read, gives-pure)
