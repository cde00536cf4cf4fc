-- What comparing a file with bytes promises. Definitions only.
use Rattle.std.specs.Prelude.{◌≡◌, ℕ, ◌≤◌, List, length, drop}

-- what is left of the bytes behind the first k, for some k no more than there are
abbrev pub IsRest : List ℕ → List ℕ → Type 0
IsRest rest bytes = (k : ℕ) × (k ≤ length bytes) × (rest ≡ drop k bytes)
