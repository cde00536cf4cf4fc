-- `event_lines::write_state` meets its contract: three fields in a row. Assumes nothing.
use Prim.Native.Nat.{◌≤◌}
use lib.ListN.{length}
use Rattle.byte_writer.specs.Places.{most}
use mathlib.Core.Path.{ap}
use native.Mathlib.Omega.{arith}
use Rattle.byte_writer.proofs.Laws.{writes_then, writes_as}
use Rattle.event_lines.specs.Lines.{letters, state_line}
use Rattle.event_lines.proofs.write_state.Goals as goal

pub returns : goal.returns
unfolding state_line
returns c =
    let l : length c.args.out.now ≤ most = omega (arith, c.well_formed.0.0) in
    writes_then l
    (writes_then l (writes_as (ap letters c.state_name.ensures) c.write_name-time.ensures)
    (λ m. c.write_column-end.ensures))
    (λ m. c.write_u8.ensures)
