use Prim.Native.Nat.{◌+◌, ◌-◌}
use mathlib.Core.Path.{◌≡◌}
use native.Mathlib.Omega.{arith}
use Rattle.name_lines.proofs.Parts.{part-found, part_whole}
use Rattle.name_lines.proofs.last_part.Goals as goal

pub returns-then-name-i-eq47 : goal.returns-then-name-i-eq47
returns-then-name-i-eq47 c =
    let l = c.loop-i in
    let e : l.i - 1 + 1 ≡ l.i = omega arith in
    rw e (part-found _ _ (omega arith) l.invariant (omega arith) c.if-name-i-eq47.true)

pub returns : goal.returns
returns c =
    let l = c.loop-i in
    let z : l.i ≡ 0 = omega arith in
    part_whole _ (rw z at l.invariant)
