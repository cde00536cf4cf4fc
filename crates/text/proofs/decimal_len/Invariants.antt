-- `text::decimal_len` meets its contract: `len`, less one, and the digits of `rest` are the digits of `n`.
-- Assumes nothing.
use Rattle.text.proofs.Written.{Counted}
use Rattle.text.proofs.decimal_len.Given as goal

abbrev pub invariant-loop-rest : goal.invariant-loop-rest
invariant-loop-rest l = Counted l.n l.len l.rest

abbrev pub decreases-loop-rest : goal.decreases-loop-rest
decreases-loop-rest l = l.rest
