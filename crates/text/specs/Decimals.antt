-- Decimal numbers of 64 bits (01, "Bytes, text, numbers" for reading, "Version 3 writer" for writing).
-- Definitions only.
use Rattle.std.specs.Prelude.{ℕ, zero, suc, ◌+◌, ◌-◌, ◌*◌, ◌/◌, ◌%◌, ◌^◌, Bool, cond, ◌&&◌, length, leb, ltb, eqb}
use mathlib.Core.List.{List, [], ◌∷◌, ◌++◌, foldl}
use Rattle.text.specs.Bytes.{all}
use Rattle.std.specs.Prelude.{Option, Some, None}

-- 0 to 9
abbrev pub is_digit : ℕ → Bool
is_digit b = leb 48 b && leb b 57

-- one digit more at the end of a number
abbrev pub more : ℕ → ℕ → ℕ
more v d = v * 10 + (d - 48)

-- the number that digits spell
abbrev pub value : List ℕ → ℕ
value ds = foldl more 0 ds

-- one + in front is left out
abbrev pub without_plus : List ℕ → List ℕ
without_plus [] = []
without_plus (b ∷ l) = cond (eqb b 43) l (b ∷ l)

-- one or more digits, zeros in front among them, whose number is a u64
unfoldable pub in_digits : List ℕ → Option ℕ
in_digits ds = cond (ltb 0 (length ds) && (all is_digit ds && ltb (value ds) (2 ^ 64))) (Some (value ds)) None

-- an optional +, then digits
unfoldable pub decimal_of : List ℕ → Option ℕ
decimal_of s = in_digits (without_plus s)

-- a number's last k digits or fewer, with no 0 in front: those of a tenth of it, then its last
abbrev pub digits_of : ℕ → ℕ → List ℕ
digits_of zero n = []
digits_of (suc k) n = cond (ltb n 10) [] (digits_of k (n / 10)) ++ ((48 + n % 10) ∷ [])

-- a u64 in decimal, with no sign and no 0 in front; 20 digits are enough, since 2 ^ 64 is below 10 ^ 20
unfoldable pub decimal_bytes : ℕ → List ℕ
decimal_bytes n = digits_of 20 n
