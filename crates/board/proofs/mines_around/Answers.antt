-- The number of a cell on the board is what its own row has beside it and what the rows above and below have
-- near its column.
use mathlib.Core.Path.{◌≡◌, sym, ◌∙◌}
use Prim.Native.Nat.{◌+◌, ◌-◌, ◌*◌, ◌/◌, ◌%◌, ◌<◌, ◌≤◌}
use native.Mathlib.Omega.{arith}
use borrow.Author.Tests.{lt-ltb}
use Rattle.board.specs.Geometry.{before, behind, beside, near, mine_at}
use Rattle.board.proofs.Around.{in_row, inRows, one-row, no_row, before-none, before-one, behind-none}
use Rattle.board.proofs.Around.{behind-one, parts}
use Rattle.board.proofs.mines_around.Goals as goal
use Rattle.board.proofs.mines_around.Goals.{then-r-gt0, else-r-gt0}

pub returns-then-r-h : goal.returns-then-r-h
returns-then-r-h c =
    let a = c.args in
    let mine = mine_at a.board.now in
    let w = a.width in
    let k = a.k in
    let own = c.mines_beside-n.ensures in
    let with_above : (c.if-r-gt0.n
    ≡ in_row mine (k / w * w) (beside w (k % w)) + inRows mine w (near w (k % w)) (before (k / w))) × (c.if-r-gt0.n ≤ 5) =
    elim c.if-r-gt0.branch [
      | then-r-gt0 t ↦
          let e : inRows mine w (near w (k % w)) (before (k / w)) ≡ t.mines_near-n.result =
          before-one (inRows mine w (near w (k % w))) (k / w) t.if-r-gt0.true
          ∙ one-row mine w (k / w - 1) (near w (k % w))
          ∙ sym t.mines_near-n.ensures.0
          in
          (omega arith, omega arith)
      | else-r-gt0 t ↦
          let e : inRows mine w (near w (k % w)) (before (k / w)) ≡ 0 =
          before-none (inRows mine w (near w (k % w))) (k / w) t.if-r-gt0.false
          ∙ no_row mine w (near w (k % w))
          in
          (omega arith, omega arith)
    ]
    in
    let e : inRows mine w (near w (k % w)) (behind a.height (k / w)) ≡ c.mines_near-n-then-r-h.result =
    behind-one (inRows mine w (near w (k % w))) a.height (k / w) c.if-r-h.true
    ∙ one-row mine w (k / w + 1) (near w (k % w))
    ∙ sym c.mines_near-n-then-r-h.ensures.0
    in
    let l : k < a.height * w = omega arith in
    rw (lt-ltb k (a.height * w) l) (omega (arith, parts mine a.height w k, with_above.0))

pub returns-else-r-h : goal.returns-else-r-h
returns-else-r-h c =
    let a = c.args in
    let mine = mine_at a.board.now in
    let w = a.width in
    let k = a.k in
    let own = c.mines_beside-n.ensures in
    let with_above : (c.if-r-gt0.n
    ≡ in_row mine (k / w * w) (beside w (k % w)) + inRows mine w (near w (k % w)) (before (k / w))) × (c.if-r-gt0.n ≤ 5) =
    elim c.if-r-gt0.branch [
      | then-r-gt0 t ↦
          let e : inRows mine w (near w (k % w)) (before (k / w)) ≡ t.mines_near-n.result =
          before-one (inRows mine w (near w (k % w))) (k / w) t.if-r-gt0.true
          ∙ one-row mine w (k / w - 1) (near w (k % w))
          ∙ sym t.mines_near-n.ensures.0
          in
          (omega arith, omega arith)
      | else-r-gt0 t ↦
          let e : inRows mine w (near w (k % w)) (before (k / w)) ≡ 0 =
          before-none (inRows mine w (near w (k % w))) (k / w) t.if-r-gt0.false
          ∙ no_row mine w (near w (k % w))
          in
          (omega arith, omega arith)
    ]
    in
    let e : inRows mine w (near w (k % w)) (behind a.height (k / w)) ≡ 0 =
    behind-none (inRows mine w (near w (k % w))) a.height (k / w) c.if-r-h.false
    ∙ no_row mine w (near w (k % w))
    in
    let l : k < a.height * w = omega arith in
    rw (lt-ltb k (a.height * w) l) (omega (arith, parts mine a.height w k, with_above.0))
