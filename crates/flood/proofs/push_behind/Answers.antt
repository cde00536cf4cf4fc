-- One cell where there is a column behind, else none.
use mathlib.Core.List.{map}
use Prim.Native.Nat.{◌+◌}
use native.Mathlib.Omega.{arith}
use Rattle.board.proofs.Around.{behind-none}
use Rattle.flood.proofs.Piles.{put_none}
use Rattle.flood.proofs.push_behind.Goals as goal

pub returns-then-c-width : goal.returns-then-c-width
returns-then-c-width c = let a = c.args in put_none _ _
    (behind-none (map (λ x. a.start + x)) a.width a.c (omega arith)) (omega arith)
