-- `reading_cases::run_case` meets its contract: its fields in a row. Assumes nothing.
use borrow.Author.Rules.{rules}
use Rattle.byte_reader.proofs.Cursor.{gives_then, gives-read, gives-pure}
use Rattle.reading_cases.specs.Layout.{reading_case}
use Rattle.reading_cases.proofs.run_case.Goals as goal

pub returns : goal.returns
unfolding reading_case
returns g c = search (rules, gives_then, gives-read, gives-pure)
