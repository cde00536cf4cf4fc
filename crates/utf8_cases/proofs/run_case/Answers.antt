-- `utf8_cases::run_case` meets its contract: its fields in a row. Assumes nothing.
use borrow.Author.Rules.{rules}
use Rattle.byte_reader.proofs.Cursor.{gives_then, gives-read, gives-pure}
use Rattle.utf8_cases.specs.Layout.{strings_case}
use Rattle.utf8_cases.proofs.run_case.Goals as goal

pub returns : goal.returns
unfolding strings_case
returns g c = search (rules, gives_then, gives-read, gives-pure)
