-- `listed::write_refusal` meets its contract: three fields in a row. Assumes nothing.
use Prim.Native.Nat.{◌≤◌}
use lib.ListN.{length}
use Rattle.byte_writer.specs.Places.{most}
use native.Mathlib.Omega.{arith}
use Rattle.byte_writer.proofs.Laws.{writes_then}
use Rattle.listed.specs.Listed.{refusal_line}
use Rattle.listed.proofs.write_refusal.Goals as goal

pub returns : goal.returns
unfolding refusal_line
returns c =
    let l : length c.args.out.now ≤ most = omega (arith, c.well_formed.0.0) in
    writes_then l (writes_then l c.write_bytes-number.ensures (λ m. c.write_column-end.ensures))
    (λ m. c.write_u8.ensures)
