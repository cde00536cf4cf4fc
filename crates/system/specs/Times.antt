-- Times as numbers. Definitions only.
use Rattle.std.specs.Prelude.{ℕ, ◌+◌, ◌*◌, ◌/◌, ◌^◌, cond, ltb, ℤ, pos, negsuc}

-- a number below 0 counts as 0
abbrev pub natural : ℤ → ℕ
natural (pos n) = n
natural (negsuc n) = 0

-- seconds and nanoseconds in whole milliseconds; 0 where there are more seconds than a clock shows that
-- counts from the machine's start
abbrev pub milliseconds : ℕ → ℕ → ℕ
milliseconds seconds nanoseconds = cond (ltb seconds (2 ^ 40)) (seconds * 1000 + nanoseconds / 1000000) 0
