-- `layout_v4::write_metrics` meets its contract: a count and a block. Assumes nothing.
use native.Mathlib.Omega.{arith}
use Rattle.layout_v4.specs.Version4.{metrics_bytes}
use Rattle.byte_writer.proofs.Laws.{writes_then, writes_as}
use Rattle.layout_v4.proofs.write_metrics.Goals as goal

pub returns : goal.returns
unfolding metrics_bytes
returns c =
    writes_then (omega arith) c.write_u16-at.ensures (λ l.
    writes_as c.metrics_block.ensures c.write_bytes.ensures)
