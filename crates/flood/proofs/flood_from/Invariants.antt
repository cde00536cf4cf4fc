-- Each turn finishes one cell. The loop begins behind the first push, so that the cells before the flood are
-- those where it begins, with cell k covered. Assumes nothing.
use mathlib.Core.Path.{◌≡◌}
use Prim.Native.Nat.{◌-◌, ◌*◌}
use lib.ListN.{set}
use Rattle.board.specs.Geometry.{mine_at}
use Rattle.flood.specs.Spread.{size}
use Rattle.flood.proofs.Flooding.{finished}
use Rattle.flood.proofs.Progress.{Progress}
use Rattle.flood.proofs.flood_from.Given as goal

abbrev pub invariant-loop-top : goal.invariant-loop-top
invariant-loop-top l =
    Progress (mine_at l.board) l.height l.width (set l.initial.work l.k 0) l.k l.work l.top l.took × (l.n ≡ l.height * l.width)

abbrev pub decreases-loop-top : goal.decreases-loop-top
decreases-loop-top l =
    l.height * l.width - size (finished (l.height * l.width) l.work)
