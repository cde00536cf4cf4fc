-- After k turns the first k cells are written, and no cell has become a mine or ceased to be one, so the
-- cells that are left come out the same.
use mathlib.Core.Path.{◌≡◌}
use Prim.Native.Nat.{ℕ}
use lib.Seq.{sets}
use Rattle.lists.specs.Lists.{each}
use Rattle.board.specs.Geometry.{cell_of, mine_at}
use Rattle.board.proofs.cal_board_numbers.Given as goal

abbrev pub invariant-loop-k : goal.invariant-loop-k
invariant-loop-k l =
    (l.board ≡ sets l.initial.board 0 (each l.k (cell_of (mine_at l.initial.board) l.height l.width)))
    × ((j : ℕ) → mine_at l.board j ≡ mine_at l.initial.board j)
