use Prim.Native.Nat.{◌+◌, ◌-◌, ◌<◌}
use mathlib.Core.Path.{◌≡◌, refl, ◌∙◌}
use native.Mathlib.Omega.{arith}
use lib.ListN.{get_or, drop}
use lib.Seq.{get_or-take, get_or-drop}
use Rattle.byte_reader.specs.Numbers.{big_endian}
use Rattle.byte_reader.proofs.Numbers.{one_more_lem, grown, room}
use Rattle.byte_reader.proofs.number_at.Goals as goal

pub loop-byte-init : goal.loop-byte-init
unfolding big_endian
loop-byte-init c = (refl, omega arith)

pub overflow_mul-v : goal.overflow_mul-v
overflow_mul-v c =
    omega (arith, room c.loop-byte.v c.loop-byte.byte-index c.args.k c.loop-byte.invariant.1 (omega arith) (omega arith))

pub overflow_add-v : goal.overflow_add-v
overflow_add-v c =
    omega (arith, room c.loop-byte.v c.loop-byte.byte-index c.args.k c.loop-byte.invariant.1 (omega arith) (omega arith))

pub loop-byte-preserved : goal.loop-byte-preserved
loop-byte-preserved c =
    let a = c.args in
    let i = c.loop-byte.byte-index in
    let is : c.from.result ≡ get_or a.file.now (a.at + i) 0 =
    c.from.ensures ∙ get_or-take (a.at + a.k - a.at) (drop a.at a.file.now) i 0 (omega arith)
    ∙ get_or-drop a.at a.file.now i 0 in
    let b : c.from.result < 256 = omega (arith, is, c.type_inv.file (a.at + i)) in
    (rw (one_more_lem a.file.now a.at i (omega arith)) (cc), grown _ _ _ c.loop-byte.invariant.1 b)
