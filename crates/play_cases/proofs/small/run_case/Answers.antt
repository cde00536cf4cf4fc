-- `play_cases::small::run_case` meets its contract: its fields in a row. Assumes nothing.
use borrow.Author.Rules.{rules}
use Rattle.byte_reader.proofs.Cursor.{gives_then, gives-read, gives-pure}
use Rattle.play_cases.specs.Layout.{small_case}
use Rattle.play_cases.proofs.small.run_case.Goals as goal

pub returns : goal.returns
unfolding small_case
returns g c = search (rules, gives_then, gives-read, gives-pure)
