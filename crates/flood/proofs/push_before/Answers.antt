-- One cell where there is a column before, else none.
use mathlib.Core.List.{map}
use Prim.Native.Nat.{◌+◌}
use native.Mathlib.Omega.{arith}
use Rattle.board.proofs.Around.{before-none}
use Rattle.flood.proofs.Piles.{put_none}
use Rattle.flood.proofs.push_before.Goals as goal

pub returns-then-c-eq0 : goal.returns-then-c-eq0
returns-then-c-eq0 c = let a = c.args in put_none _ _
    (before-none (map (λ x. a.start + x)) a.c (omega arith)) (omega arith)
