-- A buffer that is long enough is covered, and any other is left.
use mathlib.Core.Path.{sym}
use native.Mathlib.Omega.{arith}
use Rattle.flood.proofs.Covering.{filled, cover-short}
use Rattle.flood.proofs.cover.Goals as goal

pub returns-then-n-work : goal.returns-then-n-work
returns-then-n-work c =
    let a = c.args in
    filled a.height a.width a.work.now _ _ (c.fill.ensures.after (λ y e. e)) (omega (arith, c.cells_of-n.ensures.0)) (omega arith)

pub returns-else-n-work : goal.returns-else-n-work
returns-else-n-work c =
    let a = c.args in
    sym (cover-short a.height a.width a.work.now (omega arith))
