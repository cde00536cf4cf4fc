-- Arithmetic of places on a board of h rows of w cells, each at most 255. Assumes nothing.
use mathlib.Core.Path.{◌≡◌, refl}
use mathlib.Core.Bool.{true, false}
use mathlib.Core.Logic.{◌⊎◌, inl, inr}
use Prim.Native.Nat.{ℕ, zero, suc, ◌*◌, ◌/◌, ◌%◌, ◌<◌, ◌≤◌, zero-le, suc-le-suc}
use native.Mathlib.Nat.{mul-le-mul, mul-zero, not-suc-le-zero, div-lt_iff_lt-mul, mod-lt}
use native.Mathlib.Omega.{arith}
use lib.Dec.{ltb}
use borrow.Author.Tests.{ltb-true, ltb-false}

pub lt-or_ge : (a b : ℕ) → (a < b) ⊎ (b ≤ a)
lt-or_ge a b =
    (elim (ltb a b) as (λ t. ltb a b ≡ t → (a < b) ⊎ (b ≤ a))
    [ true ↦ λ e. inl (ltb-true a b e) | false ↦ λ e. inr (ltb-false a b e) ]) refl

pub product : (h w : ℕ) → h < 256 → w < 256 → h * w ≤ 65025
product h w a b =
    let c : h ≤ 255 = omega arith in
    let d : w ≤ 255 = omega arith in
    let e : h * w ≤ 255 * 255 = mul-le-mul c d in
    e

-- a board with a cell has a column
pub wide : (h w k : ℕ) → k < h * w → 0 < w
wide h zero k l = absurd (not-suc-le-zero (rw mul-zero at l))
wide h (suc w) k l = suc-le-suc zero-le

-- the row and the column of cell k are on the board
pub record On (h w k : ℕ) : Type 0 where
  pub some : 0 < w
  pub row : k / w < h
  pub column : k % w < w

pub on : (h w k : ℕ) → k < h * w → On h w k
on h w k l = let s = wide h w k l in record { some = s; row = (div-lt_iff_lt-mul s).1 l; column = mod-lt k s }

-- what the row that starts at r * w is asked for, near the column of cell k
pub starts : (h w k r : ℕ) → On h w k → h < 256 → w < 256 → r < h → (w < 256) × (r * w < 65536) × (k % w < w)
starts h w k r p a b l = (b, omega (arith, product r w (omega arith) b), p.column)
