-- `metrics::skip_texts` meets its contract. The loop's invariant: the texts still to be skipped are read from
-- where the cursor stands. Assumes nothing.
use Rattle.metrics.proofs.Skipped.{Skipped}
use Rattle.metrics.proofs.skip_texts.Given as goal

abbrev pub invariant-loop : goal.invariant-loop
invariant-loop l = Skipped l.file l.initial.next l.count l.next l.counter
