-- By whether the sum passes the largest usize.
use native.Mathlib.Omega.{arith}
use Rattle.byte_writer.proofs.Laws.{plus_fits, plus_over}
use Rattle.byte_writer.proofs.Length.plus.Goals as goal

pub returns-in-Some : goal.returns-in-Some
returns-in-Some c = rw c.in-Some.ensures.1 (plus_fits c.args.self c.args.n (omega arith))

pub returns-in-None : goal.returns-in-None
returns-in-None c = plus_over c.args.self c.args.n (omega arith)
