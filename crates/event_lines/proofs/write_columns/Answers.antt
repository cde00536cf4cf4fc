-- `event_lines::write_columns` meets its contract: three writes in a row. Assumes nothing.
use Prim.Native.Nat.{◌≤◌}
use native.Mathlib.Omega.{arith}
use lib.ListN.{length}
use Rattle.byte_writer.specs.Places.{most}
use Rattle.byte_writer.proofs.Laws.{writes_then}
use Rattle.event_lines.specs.Lines.{three_columns}
use Rattle.event_lines.proofs.write_columns.Goals as goal

pub returns : goal.returns
unfolding three_columns
returns c =
    let l : length c.args.out.now ≤ most = omega (arith, c.well_formed.0.0) in
    writes_then l (writes_then l c.write_column-second.ensures (λ m. c.write_column-third.ensures))
    (λ m. c.write_column.ensures)
