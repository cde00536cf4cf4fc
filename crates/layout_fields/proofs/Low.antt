-- Numbers of one byte and of two. Assumes nothing.
use Prim.Native.Nat.{ℕ, ◌/◌, ◌%◌, ◌<◌}
use mathlib.Core.Path.{◌≡◌}
use mathlib.Core.List.{[], ◌∷◌}
use native.Mathlib.Omega.{arith}
use Rattle.byte_reader.specs.Numbers.{bytes_of}

-- the low bytes of a number are written as the number is, in so many bytes
pub low_1 : (n v : ℕ) → v ≡ n % 256 → bytes_of 1 v ≡ bytes_of 1 n
low_1 n v e = let a : v / 1 % 256 ≡ n / 1 % 256 = omega arith in rw a

-- a byte is written as it is
pub byte_is : (v : ℕ) → v < 256 → bytes_of 1 v ≡ v ∷ []
byte_is v l = let a : v / 1 % 256 ≡ v = omega arith in rw a

pub low_2 : (n v : ℕ) → v ≡ n % 65536 → bytes_of 2 v ≡ bytes_of 2 n
low_2 n v e =
    let a : v / 256 % 256 ≡ n / 256 % 256 = omega arith in
    let b : v / 1 % 256 ≡ n / 1 % 256 = omega arith in
    rw (a, b)
