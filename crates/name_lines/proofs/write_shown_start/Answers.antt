-- `name_lines::write_shown_start` meets its contract: two writes in a row. Assumes nothing.
use mathlib.Core.Path.{ap}
use native.Mathlib.Omega.{arith}
use Rattle.byte_writer.proofs.Laws.{writes_as, writes_then}
use Rattle.name_lines.specs.Shown.{shown_name}
use Rattle.name_lines.proofs.write_shown_start.Goals as goal

pub returns : goal.returns
returns c =
    let bytes = c.write_bytes in
    let start = writes_as (ap shown_name c.part.ensures) c.write_shown-end.ensures in
    writes_then (omega arith) start (λ l. bytes.ensures)
