-- One row where there is one above, else none.
use mathlib.Core.Path.{◌∙◌}
use Prim.Native.Nat.{◌-◌}
use native.Mathlib.Omega.{arith}
use Rattle.board.specs.Geometry.{near, crossing}
use Rattle.board.proofs.Around.{before-none, before-one}
use Rattle.flood.proofs.Rows.{no_rows, row_of}
use Rattle.flood.proofs.Piles.{put_none, put_as}
use Rattle.flood.proofs.push_above.Goals as goal

pub returns-then-r-eq0 : goal.returns-then-r-eq0
returns-then-r-eq0 c =
    let a = c.args in
    let cs = near a.width a.c in
    put_none _ _ (before-none (λ rs. crossing a.width rs cs) a.r (omega arith) ∙ no_rows a.width cs)
    (omega arith)

pub returns : goal.returns
returns c =
    let a = c.args in
    put_as _ _ _ _
    (before-one (λ rs. crossing a.width rs (near a.width a.c)) a.r (omega arith)
    ∙ row_of a.width (near a.width a.c) (a.r - 1))
    c.push_near.ensures
