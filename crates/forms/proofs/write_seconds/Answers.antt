-- `forms::write_seconds` meets its contract: two writes in a row. Assumes nothing.
use native.Mathlib.Omega.{arith}
use Rattle.byte_writer.proofs.Laws.{writes_then}
use Rattle.forms.specs.Values.{seconds}
use Rattle.forms.proofs.write_seconds.Goals as goal

pub returns : goal.returns
unfolding seconds
returns c =
    writes_then (omega (arith, c.well_formed.0.0)) c.write_number-end.ensures (λ l.
    c.write_thousandths.ensures)
