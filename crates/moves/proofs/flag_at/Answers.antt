-- A test for each part of the definition. Assumes nothing.
use mathlib.Core.Path.{sym, ◌∙◌, ap}
use Prim.Native.Nat.{◌*◌}
use native.Mathlib.Omega.{arith}
use lib.ListN.{get_or, set}
use lib.Seq.{set_out}
use Rattle.moves.specs.Moves.{swapped_entry}
use Rattle.moves.proofs.Steps.{flagged-at, flagged-off}
use Rattle.moves.proofs.flag_at.Goals as goal
use Rattle.moves.proofs.flag_at.Goals.{else-k-cells_of-via-then-k-cells_of+else-k-cells, else-k-cells_of-via-else-k-cells_of}

pub returns-then-k-cells : goal.returns-then-k-cells
returns-then-k-cells c =
    let a = c.args in
    ap (set a.cells.now a.k) c.swap_flag.ensures
    ∙ sym (flagged-at (a.height * a.width) a.cells.now a.k (omega arith))

pub returns-else-k-cells_of : goal.returns-else-k-cells_of
returns-else-k-cells_of c =
    let a = c.args in
    elim c.else-k-cells_of.branch [
      | else-k-cells_of-via-then-k-cells_of+else-k-cells w ↦
          sym (set_out a.cells.now a.k (swapped_entry (get_or a.cells.now a.k 0)) (omega arith))
          ∙ sym (flagged-at (a.height * a.width) a.cells.now a.k (omega arith))
      | else-k-cells_of-via-else-k-cells_of w ↦ sym (flagged-off (a.height * a.width) a.cells.now a.k (omega arith))
    ]
