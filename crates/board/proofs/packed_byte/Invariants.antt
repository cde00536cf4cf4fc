-- After m turns the byte has the first m bits, so there is room for the next.
use mathlib.Core.Path.{◌≡◌}
use mathlib.Core.Bool.{Bool}
use mathlib.Core.List.{List}
use Prim.Native.Nat.{ℕ, ◌+◌, ◌*◌}
use lib.IntN.{ℤ}
use Rattle.board.specs.Geometry.{mine_at}
use Rattle.board.specs.Bits.{of_bits}
use Rattle.board.proofs.packed_byte.Given as goal

-- the bits of byte j
abbrev pub bits_of : List ℤ → ℕ → ℕ → Bool
bits_of cells j m = mine_at cells (j * 8 + m)

abbrev pub invariant-loop-m : goal.invariant-loop-m
invariant-loop-m l = l.b ≡ of_bits l.m (bits_of l.cells l.j)
