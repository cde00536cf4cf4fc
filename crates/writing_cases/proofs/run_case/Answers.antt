-- `writing_cases::run_case` meets its contract: its fields in a row. Assumes nothing.
use borrow.Author.Rules.{rules}
use Rattle.byte_reader.proofs.Cursor.{gives_then, gives-read}
use Rattle.writing_cases.specs.Layout.{writing_case}
use Rattle.writing_cases.proofs.run_case.Goals as goal

pub returns : goal.returns
unfolding writing_case
returns g c = search (rules, gives_then, gives-read) depth 9
