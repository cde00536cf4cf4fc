-- `framed_games::read_header` meets its contract: its groups of fields in a row.
-- Assumes nothing.
use borrow.Author.Rules.{rules}
use Rattle.byte_reader.proofs.Cursor.{gives_then}
use Rattle.framed_games.specs.Layout.{header_fields}
use Rattle.framed_games.proofs.read_header.Goals as goal

pub returns : goal.returns
unfolding header_fields
returns c = search (rules, gives_then)
