-- Each side has its test: one cell where it is on the board, none where it is not.
use mathlib.Core.Path.{◌≡◌, sym, ◌∙◌}
use Prim.Native.Nat.{◌+◌, ◌-◌, ◌≤◌}
use native.Mathlib.Omega.{arith}
use Rattle.board.specs.Geometry.{before, behind, mine_at}
use Rattle.board.proofs.Around.{in_row, one, before-none, before-one, behind-none, behind-one, sides}
use Rattle.board.proofs.mines_beside.Goals as goal
use Rattle.board.proofs.mines_beside.Goals.{then-c-gt0, else-c-gt0}

pub returns-then-c-width : goal.returns-then-c-width
returns-then-c-width c =
    let a = c.args in
    let mine = mine_at a.board.now in
    let first : (c.if-c-gt0.n ≡ in_row mine a.start (before a.c)) × (c.if-c-gt0.n ≤ 1) =
    elim c.if-c-gt0.branch [
      | then-c-gt0 w ↦ (
        w.n-is ∙ w.mine_at-n.ensures.0
            ∙ sym (before-one (in_row mine a.start) a.c w.if-c-gt0.true ∙ one mine (a.start + (a.c - 1))),
        omega arith,
      )
      | else-c-gt0 w ↦ (w.n-is ∙ sym (before-none (in_row mine a.start) a.c w.if-c-gt0.false), omega arith)
    ]
    in
    let e : in_row mine a.start (behind a.width a.c) ≡ c.mine_at-n-then-c-width.result =
    behind-one (in_row mine a.start) a.width a.c (omega arith) ∙ one mine (a.start + (a.c + 1))
    ∙ sym c.mine_at-n-then-c-width.ensures.0
    in
    (omega (arith, sides mine a.start a.width a.c), omega arith)

pub returns-else-c-width : goal.returns-else-c-width
returns-else-c-width c =
    let a = c.args in
    let mine = mine_at a.board.now in
    let first : (c.if-c-gt0.n ≡ in_row mine a.start (before a.c)) × (c.if-c-gt0.n ≤ 1) =
    elim c.if-c-gt0.branch [
      | then-c-gt0 w ↦ (
        w.n-is ∙ w.mine_at-n.ensures.0
            ∙ sym (before-one (in_row mine a.start) a.c w.if-c-gt0.true ∙ one mine (a.start + (a.c - 1))),
        omega arith,
      )
      | else-c-gt0 w ↦ (w.n-is ∙ sym (before-none (in_row mine a.start) a.c w.if-c-gt0.false), omega arith)
    ]
    in
    let e : in_row mine a.start (behind a.width a.c) ≡ 0 =
    behind-none (in_row mine a.start) a.width a.c (omega arith) in
    (omega (arith, sides mine a.start a.width a.c), omega arith)
