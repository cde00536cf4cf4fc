-- `framed_games::read_row` meets its contract: its fields in a row.
-- Assumes nothing.
use borrow.Author.Rules.{rules}
use Rattle.byte_reader.proofs.Cursor.{gives_then, gives-read, gives-pure}
use Rattle.framed_games.specs.Layout.{row_head}
use Rattle.framed_games.proofs.read_row.Goals as goal

pub returns : goal.returns
unfolding row_head
returns c = search (rules, gives_then, gives-read, gives-pure)
