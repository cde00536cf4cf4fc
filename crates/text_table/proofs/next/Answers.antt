-- `text_table::next` meets its contract: the texts but the first stand behind its 00. Assumes nothing.
use mathlib.Core.Path.{sym}
use native.Mathlib.Omega.{arith}
use Rattle.text.proofs.Ends.{end_is}
use Rattle.text_table.proofs.Laws.{next-found, next-missing}
use Rattle.text_table.proofs.next.Goals as goal

pub overflow_add-result : goal.overflow_add-result
overflow_add-result c =
    let found = sym c.in-Some.ensures in
    omega (arith, (end_is _ _ _ found).inside)

pub returns-in-Some : goal.returns-in-Some
returns-in-Some c = next-found _ _ _ (sym c.in-Some.ensures)

pub returns-in-None : goal.returns-in-None
returns-in-None c = next-missing _ _ (sym c.in-None.ensures)
