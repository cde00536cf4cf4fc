-- A float as its whole part and how what is left compares with a half: what every rule for the nearest whole
-- number works from. Words of the proofs.
use Prim.Native.Nat.{ℕ, ◌*◌, ◌/◌, ◌%◌, ◌^◌, compare, Ordering}
use mathlib.Core.Bool.{true, false, cond}
use lib.Dec.{ltb}
use lib.Ieee.{Float, nan, inf, fin, up, down}
use Rattle.times.specs.Times.{largest_ms}

-- how what is left over after the whole part compares with a half
pub data Rest : Type 0 where
  Below : Rest
  Half : Rest
  Above : Rest

pub record Parts : Type 0 where
  pub whole : ℕ
  pub rest : Rest

-- by how twice the remainder compares with the divisor
abbrev pub rest_by : Ordering → Rest
rest_by Ordering.lt = Below
rest_by Ordering.eq = Half
rest_by Ordering.gt = Above

-- 0, and the largest u32
abbrev pub nothing : Parts
nothing = record { whole = 0; rest = Below }

abbrev pub largest : Parts
largest = record { whole = largest_ms; rest = Below }

-- a / b; from 2 ^ 32 on it is the largest u32
unfoldable pub fraction_parts : ℕ → ℕ → Parts
fraction_parts a b = cond (ltb (a / b) (2 ^ 32))
    (record { whole = a / b; rest = rest_by (compare (a % b * 2) b) }) largest

-- NaN and negatives are as 0
unfoldable pub parts_of : Float → Parts
parts_of nan = nothing
parts_of (inf s) = cond s nothing largest
parts_of (fin true m e) = nothing
parts_of (fin false m e) = fraction_parts (m * up e) (down e)
