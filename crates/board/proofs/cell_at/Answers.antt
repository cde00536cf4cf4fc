-- -1 for a mine; else the number, which is at most 8 and so fits.
use mathlib.Core.Path.{◌≡◌, ◌∙◌, sym}
use Prim.Native.Nat.{◌*◌}
use native.Mathlib.Omega.{arith}
use mir.Syntax.{w8}
use mir.Facts.{to_z_pos}
use borrow.Author.Tests.{lt-ltb}
use Rattle.board.specs.Geometry.{number, cell_of, mine_at}
use Rattle.board.proofs.Same.{number_few}
use Rattle.board.proofs.cell_at.Goals as goal

pub returns-then-is_mine : goal.returns-then-is_mine
unfolding cell_of
returns-then-is_mine c =
    let a = c.args in
    rw (sym c.is_mine.ensures ∙ c.if-is_mine.true)

counted : (c : goal.After-mines_around) → let a = c.args in
    c.mines_around.result ≡ number (mine_at a.board.now) a.height a.width a.k
counted c =
    let a = c.args in
    c.mines_around.ensures ∙ rw (lt-ltb a.k (a.height * a.width) c.requires)

pub overflow_cast-result : goal.overflow_cast-result
overflow_cast-result c =
    let a = c.args in
    let e = counted c in
    omega (arith, number_few (mine_at a.board.now) a.height a.width a.k)

pub returns : goal.returns
unfolding cell_of
returns c =
    let a = c.args in
    let mine = mine_at a.board.now in
    let e = counted c in
    let l = number_few mine a.height a.width a.k in
    let m = sym c.is_mine.ensures ∙ c.if-is_mine.false in
    to_z_pos w8 {n = c.mines_around.result} (omega arith) ∙ rw (e, m)
