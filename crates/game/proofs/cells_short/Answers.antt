-- `game::cells_short` meets its contract: with no row there is no cell to miss, and else a row's share of the
-- cells tells. Assumes nothing.
use mathlib.Core.Path.{sym}
use native.Mathlib.Nat.{zero-mul}
use native.Mathlib.Omega.{arith}
use borrow.Author.Tests.{le-ltb}
use Rattle.game.specs.Sizes.{cells_short}
use Rattle.game.proofs.Sizes.{divided}
use Rattle.game.proofs.cells_short.Goals as goal

pub returns-then-height-eq0 : goal.returns-then-height-eq0
unfolding cells_short
returns-then-height-eq0 c =
    let a = c.args in
    rw (c.if-height-eq0.true, zero-mul a.width) (sym (le-ltb a.cells 0 (omega arith)))

pub returns : goal.returns
returns c =
    let a = c.args in
    divided a.height a.width a.cells (omega (arith, c.if-height-eq0.false))
