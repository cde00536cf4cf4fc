-- `time_cases::run_case` meets its contract: its fields in a row. Assumes nothing.
use borrow.Author.Rules.{rules}
use Rattle.byte_reader.proofs.Cursor.{gives_then, gives-read, gives-pure}
use Rattle.time_cases.specs.Layout.{milliseconds_case}
use Rattle.time_cases.proofs.run_case.Goals as goal

pub returns : goal.returns
unfolding milliseconds_case
returns g c = search (rules, gives_then, gives-read, gives-pure)
