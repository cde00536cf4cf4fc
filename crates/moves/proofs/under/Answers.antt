-- A test for each part of the definition. Assumes nothing.
use mathlib.Core.Path.{sym, ◌∙◌}
use native.Mathlib.Omega.{arith}
use Rattle.moves.proofs.Targets.{under-flat, under-below, under-beside, under-is}
use Rattle.moves.proofs.under.Goals as goal
use Rattle.moves.proofs.under.Goals.{else-row-height-via-then-row-height+else-column-width, else-row-height-via-else-row-height}

pub returns-then-p-eq0 : goal.returns-then-p-eq0
returns-then-p-eq0 c =
    let a = c.args in
    c.cells_of-none.ensures.0 ∙ sym (under-flat a.p a.x a.y c.if-p-eq0.true)

pub returns-then-column-width : goal.returns-then-column-width
returns-then-column-width c =
    let a = c.args in
    sym (under-is a.p a.x a.y c.if-p-eq0.false (omega arith) (omega arith))

pub returns : goal.returns
returns c =
    let a = c.args in
    elim c.else-row-height.branch [
      | else-row-height-via-then-row-height+else-column-width w ↦
          c.cells_of-none.ensures.0
          ∙ sym (under-beside a.p a.x a.y c.if-p-eq0.false (omega arith) (omega arith))
      | else-row-height-via-else-row-height w ↦
          c.cells_of-none.ensures.0 ∙ sym (under-below a.p a.x a.y c.if-p-eq0.false (omega arith))
    ]
