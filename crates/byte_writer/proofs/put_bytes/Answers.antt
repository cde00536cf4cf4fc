use mathlib.Core.Path.{◌∙◌}
use native.Mathlib.Omega.{arith}
use Rattle.lists.proofs.Stores.{sets-take}
use Rattle.byte_writer.proofs.put_bytes.Goals as goal

pub loop-i-preserved : goal.loop-i-preserved
loop-i-preserved c =
    let l = c.loop-i in
    let a = c.args in
    c.put_byte.ensures ∙ rw l.invariant (sets-take a.out.now a.at l.i a.bytes.now 0 (omega arith))
