-- A test for each part of the definition.
use mathlib.Core.Path.{◌≡◌, sym, ◌∙◌}
use mathlib.Core.Bool.{not, false, true}
use Prim.Native.Nat.{◌*◌, ◌<◌}
use native.Mathlib.Omega.{arith}
use borrow.Author.Tests.{lt-ltb, le-ltb}
use Rattle.flood.specs.Flood.{is_zero}
use Rattle.flood.proofs.is_zero.Goals as goal
use Rattle.flood.proofs.is_zero.Goals.{then-k-cells_of, else-k-cells_of}

pub returns-then-not-is_mine : goal.returns-then-not-is_mine
unfolding is_zero
returns-then-not-is_mine c =
    let a = c.args in
    elim c.if-k-cells_of.branch [
      | then-k-cells_of w ↦
          let l : a.k < a.height * a.width = omega arith in
          let e : not w.is_mine.result ≡ true = sym w.value-is ∙ c.if-not-is_mine.true in
          rw (c.mines_around.ensures, lt-ltb a.k (a.height * a.width) l, ← w.is_mine.ensures, e)
      | else-k-cells_of w ↦ cc (le-ltb a.k c.cells_of.result w.if-k-cells_of.false)
    ]

pub returns-else-not-is_mine : goal.returns-else-not-is_mine
unfolding is_zero
returns-else-not-is_mine c =
    let a = c.args in
    elim c.if-k-cells_of.branch [
      | then-k-cells_of w ↦
          let l : a.k < a.height * a.width = omega arith in
          let e : not w.is_mine.result ≡ false = sym w.value-is ∙ c.if-not-is_mine.false in
          rw (lt-ltb a.k (a.height * a.width) l, ← w.is_mine.ensures, e) c.if-not-is_mine.false
      | else-k-cells_of w ↦ rw (le-ltb a.k (a.height * a.width) (omega arith)) c.if-not-is_mine.false
    ]
