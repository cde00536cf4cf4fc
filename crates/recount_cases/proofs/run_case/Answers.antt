-- `recount_cases::run_case` meets its contract: its fields in a row. Assumes nothing.
use borrow.Author.Rules.{rules}
use Rattle.byte_reader.proofs.Cursor.{gives_then, gives-read, gives-pure}
use Rattle.recount_cases.specs.Layout.{recount_case}
use Rattle.recount_cases.proofs.run_case.Goals as goal

pub returns : goal.returns
unfolding recount_case
returns g c = search (rules, gives_then, gives-read, gives-pure)
