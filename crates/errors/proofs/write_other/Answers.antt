-- `errors::write_other` meets its contract: two writes in a row. Assumes nothing.
use mathlib.Core.Path.{refl}
use native.Mathlib.Omega.{arith}
use Rattle.byte_writer.proofs.Laws.{writes_as, writes_then}
use Rattle.errors.proofs.write_other.Goals as goal

pub returns : goal.returns
returns c =
    writes_as refl
    (writes_then (omega arith) c.write_bytes-end.ensures (λ l. c.write_number.ensures))
