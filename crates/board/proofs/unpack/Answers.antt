use native.Mathlib.Omega.{arith}
use mathlib.Core.Path.{◌≡◌, ◌∙◌}
use mir.Syntax.{w8}
use mir.Facts.{to_z-of_z}
use lib.ListN.{length}
use Rattle.board.specs.Geometry.{mark_of}
use Rattle.board.specs.Bits.{bit_at}
use Rattle.board.proofs.Front.{store, whole}
use Rattle.board.proofs.unpack.Goals as goal

pub loop-k-preserved : goal.loop-k-preserved
loop-k-preserved c =
    let a = c.args in
    rw (to_z-of_z {w = w8} (record { sfits = c.mark_at.type_inv }), c.mark_at.ensures, c.loop-k.invariant)
    (store a.board.now c.loop-k.k (mark_of (bit_at a.bits.now)))

pub returns : goal.returns
returns c =
    let e : c.loop-k.k ≡ length c.args.board.now = omega arith in
    c.loop-k.invariant ∙ rw e (whole c.args.board.now (mark_of (bit_at c.args.bits.now)))
