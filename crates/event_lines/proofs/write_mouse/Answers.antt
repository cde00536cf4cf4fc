-- `event_lines::write_mouse` meets its contract: the name, three numbers and the end of the line in a row.
-- Assumes nothing.
use mathlib.Core.Path.{ap}
use Prim.Native.Nat.{◌≤◌}
use native.Mathlib.Omega.{arith}
use lib.ListN.{length}
use Rattle.byte_writer.specs.Places.{most}
use Rattle.byte_writer.proofs.Laws.{writes_then, writes_as}
use Rattle.names.specs.Names.{kind_name}
use Rattle.event_lines.specs.Lines.{letters, mouse_line}
use Rattle.event_lines.proofs.Threes.{one_by_one}
use Rattle.event_lines.proofs.write_mouse.Goals as goal

pub returns : goal.returns
unfolding mouse_line
returns c =
    let l : length c.args.out.now ≤ most = omega (arith, c.well_formed.0.0) in
    let a = c.args in
    writes_then l
    (writes_as (one_by_one (letters (kind_name a.kind)) a.ms a.x a.y)
    (writes_then l (writes_as (ap letters c.kind_name.ensures) c.write_name-time.ensures)
    (λ m. c.write_columns-end.ensures)))
    (λ m. c.write_u8.ensures)
