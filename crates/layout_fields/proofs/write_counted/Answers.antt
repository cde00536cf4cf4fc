-- `layout_fields::write_counted` meets its contract. Assumes nothing.
use mathlib.Core.Path.{ap}
use native.Mathlib.Omega.{arith}
use Rattle.byte_writer.specs.Fields.{counted}
use Rattle.byte_writer.proofs.Laws.{writes_then, writes_as}
use Rattle.layout_fields.proofs.Low.{low_2}
use Rattle.layout_fields.proofs.write_counted.Goals as goal

pub returns : goal.returns
returns c =
    writes_as (ap counted c.text_of-text.ensures)
    (writes_then (omega arith)
    (writes_as (low_2 _ _ c.low_u16.ensures) c.write_u16-next.ensures)
    (λ l. c.write_bytes.ensures))
