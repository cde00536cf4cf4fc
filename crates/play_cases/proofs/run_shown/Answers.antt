-- `play_cases::run_shown` meets its contract: its fields in a row. Assumes nothing.
use borrow.Author.Rules.{rules}
use Rattle.byte_reader.proofs.Cursor.{gives_then}
use Rattle.play_cases.specs.Layout.{play_case}
use Rattle.play_cases.proofs.run_shown.Goals as goal

pub returns : goal.returns
unfolding play_case
returns g c = search (rules, gives_then)
