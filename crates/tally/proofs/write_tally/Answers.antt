-- `tally::write_tally` meets its contract: two writes in a row. Assumes nothing.
use native.Mathlib.Omega.{arith}
use Rattle.byte_writer.proofs.Laws.{writes_then}
use Rattle.tally.proofs.write_tally.Goals as goal

pub returns : goal.returns
returns c =
    let counts = c.write_counts-end in
    writes_then (omega arith) counts.ensures
    (λ l. c.write_u8.ensures)
