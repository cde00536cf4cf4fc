-- -1 and 0 from the bits, then numbers in place: the same as the cells of the bits at once (`in_place`).
use mathlib.Core.Path.{◌∙◌, ap}
use mathlib.Core.List.{◌++◌}
use Prim.Native.Nat.{◌*◌}
use native.Mathlib.Omega.{arith}
use lib.ListN.{length, drop}
use lib.Seq.{sets}
use borrow.Author.Tests.{lt-leb}
use Rattle.lists.specs.Lists.{each}
use Rattle.board.specs.Geometry.{board_after, mine_at, mark_of}
use Rattle.board.specs.Bits.{bit_at}
use Rattle.board.proofs.Front.{front}
use Rattle.board.proofs.Same.{in_place}
use Rattle.board.proofs.read_board.Goals as goal

pub returns-then-n-board : goal.returns-then-n-board
returns-then-n-board c =
    let a = c.args in
    let d = a.board.now in
    let mine = bit_at a.bits.now in
    c.cal_board_numbers.ensures
    ∙ ap (λ l. board_after (mine_at l) a.height a.width l)
    (ap (λ l. l ++ drop c.cells_of-n.result d) c.unpack.ensures ∙ front d c.cells_of-n.result (mark_of mine) (omega arith)
    ∙ ap (λ n. sets d 0 (each n (mark_of mine))) c.cells_of-n.ensures.0)
    ∙ in_place mine a.height a.width d (omega arith)

pub returns-else-n-board : goal.returns-else-n-board
unfolding board_after
returns-else-n-board c =
    let a = c.args in
    rw (lt-leb (a.height * a.width) (length a.board.now) (omega arith))
