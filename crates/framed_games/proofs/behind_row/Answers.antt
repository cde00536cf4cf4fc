-- `framed_games::behind_row` meets its contract: the bytes of the entries.
-- Assumes nothing.
use borrow.Author.Rules.{rules}
use Rattle.byte_reader.proofs.Cursor.{gives_then, gives-read, gives-pure}
use Rattle.framed_games.specs.Layout.{row_bytes}
use Rattle.framed_games.proofs.behind_row.Goals as goal

pub returns : goal.returns
unfolding row_bytes
returns c = search (rules, gives_then, gives-read, gives-pure)
