-- `play_cases::read_asked` meets its contract: its fields in a row. Assumes nothing.
use borrow.Author.Rules.{rules}
use Rattle.byte_reader.proofs.Cursor.{gives_then, gives-read, gives-pure}
use Rattle.play_cases.specs.Layout.{asked_fields}
use Rattle.play_cases.proofs.read_asked.Goals as goal

pub returns : goal.returns
unfolding asked_fields
returns c = search (rules, gives_then, gives-read, gives-pure) depth 9
