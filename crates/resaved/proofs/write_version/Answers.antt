-- `resaved::write_version` meets its contract: two writes in a row. Assumes nothing.
use native.Mathlib.Omega.{arith}
use Rattle.byte_writer.proofs.Laws.{writes_then, writes_as}
use Rattle.resaved.proofs.Fields.{older_line_lem}
use Rattle.resaved.proofs.write_version.Goals as goal

pub returns : goal.returns
returns c =
    writes_as (older_line_lem _)
    (writes_then (omega arith) c.write_bytes-at.ensures (λ l. c.write_count.ensures))
