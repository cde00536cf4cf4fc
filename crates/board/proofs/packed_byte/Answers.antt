use mathlib.Core.Path.{◌≡◌, sym, ap, ◌∙◌}
use native.Mathlib.Omega.{arith}
use Rattle.board.specs.Bits.{of_bits}
use Rattle.board.proofs.Packed.{ofBits-more, room}
use Rattle.board.proofs.packed_byte.Invariants.{bits_of}
use Rattle.board.proofs.packed_byte.Goals as goal

pub overflow_mul-b : goal.overflow_mul-b
overflow_mul-b c =
    let l = c.loop-m in
    let a = c.args in
    omega (arith, l.invariant, room (bits_of a.cells.now a.j) l.m (omega arith))

pub overflow_add-b : goal.overflow_add-b
overflow_add-b c =
    let l = c.loop-m in
    let a = c.args in
    omega (arith, l.invariant, room (bits_of a.cells.now a.j) l.m (omega arith))

pub loop-m-preserved : goal.loop-m-preserved
loop-m-preserved c =
    let l = c.loop-m in
    let a = c.args in
    rw (l.invariant, c.mine_at.ensures.0) (sym (ofBits-more (bits_of a.cells.now a.j) l.m))

pub returns : goal.returns
returns c =
    let l = c.loop-m in
    let a = c.args in
    let e : l.m ≡ 8 = omega arith in
    l.invariant ∙ ap (λ k. of_bits k (bits_of a.cells.now a.j)) e
