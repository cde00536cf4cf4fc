-- `text_table::behind` meets its contract: so many texts are behind the place. Assumes nothing.
use Rattle.text_table.specs.Places.{Behind}
use Rattle.text_table.proofs.behind.Given as goal

abbrev pub invariant-loop : goal.invariant-loop
invariant-loop l = Behind l.counter l.list l.at
