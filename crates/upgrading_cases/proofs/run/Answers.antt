-- `upgrading_cases::run` meets its contract: its fields in a row. Assumes nothing.
use borrow.Author.Rules.{rules}
use Rattle.byte_reader.proofs.Cursor.{gives_then, gives-read, gives-pure}
use Rattle.upgrading_cases.specs.Layout.{copying_case}
use Rattle.upgrading_cases.proofs.run.Goals as goal

pub returns : goal.returns
unfolding copying_case
returns g c = search (rules, gives_then, gives-read, gives-pure)
