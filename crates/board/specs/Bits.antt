-- The packed board of 01, "Board": a bit for each cell, no gap between rows, the high bit of a byte first.
-- Definitions only.
use Rattle.std.specs.Prelude.{ℕ, zero, suc, ◌+◌, ◌-◌, ◌*◌, ◌/◌, ◌%◌, ◌^◌, Bool, cond, ◌&&◌, List, ltb, eqb, get_or}
use Rattle.lists.specs.Lists.{each}

-- bit m of a byte, the high bit first
abbrev pub bit_of : ℕ → ℕ → Bool
bit_of b m = eqb (b / 2 ^ (7 - m) % 2) 1

-- bit k of packed bytes; past their end it is 0
unfoldable pub bit_at : List ℕ → ℕ → Bool
bit_at bytes k = bit_of (get_or bytes (k / 8) 0) (k % 8)

-- the number with the k bits that a test gives, the first one highest
abbrev pub of_bits : ℕ → (ℕ → Bool) → ℕ
of_bits zero p = 0
of_bits (suc k) p = of_bits k p * 2 + cond (p k) 1 0

-- byte j of n packed cells: eight bits, those from n on are 0
unfoldable pub packed_byte : (ℕ → Bool) → ℕ → ℕ → ℕ
packed_byte mine n j = of_bits 8 (λ m. ltb (j * 8 + m) n && mine (j * 8 + m))

-- how many bytes n cells take, and the bytes
abbrev pub packed_length : ℕ → ℕ
packed_length n = (n + 7) / 8

unfoldable pub packed : (ℕ → Bool) → ℕ → List ℕ
packed mine n = each (packed_length n) (packed_byte mine n)
