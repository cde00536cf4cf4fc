-- `text::put_decimal` meets its contract: the digits from `i` on are stored, and those before are the digits
-- of `rest`. Assumes nothing.
use Rattle.text.proofs.Written.{Stored}
use Rattle.text.proofs.put_decimal.Given as goal

abbrev pub invariant-loop-i : goal.invariant-loop-i
invariant-loop-i l = Stored l.initial.out l.out l.at l.n l.i l.rest
