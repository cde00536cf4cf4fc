use mathlib.Core.Path.{◌≡◌, ap, ◌∙◌, fun_ext}
use Prim.Native.Nat.{◌*◌}
use native.Mathlib.Omega.{arith}
use mir.Syntax.{w8}
use mir.Facts.{to_z-of_z}
use lib.ListN.{length}
use borrow.Author.Tests.{le-leb, lt-leb}
use Rattle.board.specs.Geometry.{is_mine, cell_of, cells, board_after, mine_at}
use Rattle.board.proofs.Front.{store}
use Rattle.board.proofs.Cells.{cell-mine, same_mines}
use Rattle.board.proofs.cal_board_numbers.Goals as goal

pub returns-then-board-n : goal.returns-then-board-n
unfolding board_after
returns-then-board-n c =
    let a = c.args in
    rw (lt-leb (a.height * a.width) (length a.board.now) (omega arith))

pub loop-k-preserved : goal.loop-k-preserved
loop-k-preserved c =
    let a = c.args in
    let d = a.board.now in
    let h = a.height in
    let w = a.width in
    let k = c.loop-k.k in
    let v = c.cell_at.result in
    let is : v ≡ cell_of (mine_at d) h w k =
    c.cell_at.ensures ∙ ap (λ m. cell_of m h w k) (fun_ext c.loop-k.invariant.1) in
    let kept : is_mine v ≡ mine_at c.loop-k.board k =
    ap is_mine c.cell_at.ensures ∙ cell-mine (mine_at c.loop-k.board) h w k in
    rw (to_z-of_z {w = w8} (record { sfits = c.cell_at.type_inv })) (
      rw (is, c.loop-k.invariant.0) (store d k (cell_of (mine_at d) h w)),
      λ j. same_mines c.loop-k.board k v kept j ∙ c.loop-k.invariant.1 j,
    )

pub returns : goal.returns
unfolding board_after cells
returns c =
    let l = c.loop-k in
    let a = c.args in
    let e : l.k ≡ a.height * a.width = omega arith in
    rw (le-leb (a.height * a.width) (length a.board.now) (omega arith), ← e) l.invariant.0
