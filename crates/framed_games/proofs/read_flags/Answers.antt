-- `framed_games::read_flags` meets its contract: one field.
-- Assumes nothing.
use borrow.Author.Rules.{rules}
use Rattle.byte_reader.proofs.Cursor.{gives_then, gives-read, gives-pure}
use Rattle.framed_games.specs.Layout.{flags_field}
use Rattle.framed_games.proofs.read_flags.Goals as goal

pub returns : goal.returns
unfolding flags_field
returns c = search (rules, gives_then, gives-read, gives-pure)
