-- `layout_v4::write_tail_4` meets its contract. Assumes nothing.
use native.Mathlib.Omega.{arith}
use Rattle.layout_v4.specs.Version4.{tail4}
use Rattle.byte_writer.proofs.Laws.{writes_then}
use Rattle.layout_v4.proofs.write_tail_4.Goals as goal

pub returns : goal.returns
unfolding tail4
returns c =
    writes_then (omega arith) c.write_u8-at.ensures (λ l.
    c.write_counted.ensures)
