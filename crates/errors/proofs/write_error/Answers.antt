-- `errors::write_error` meets its contract: the words stand at the place of the number, or there are none.
-- Assumes nothing.
use Rattle.std.proofs.Common.{sym, arith}
use Rattle.byte_writer.proofs.Laws.{writes_as}
use Rattle.errors.proofs.Found.{known, other}
use Rattle.errors.proofs.write_error.Goals as goal

pub returns-in-Some : goal.returns-in-Some
returns-in-Some c = writes_as (known _ (sym (c.in-Some.ensures).0) (c.in-Some.ensures).1) c.write_known.ensures

pub returns-in-None : goal.returns-in-None
returns-in-None c = writes_as (other _ (sym c.in-None.ensures) (omega arith)) c.write_other.ensures
