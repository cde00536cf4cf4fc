-- What private functions ask and give on the way to the nearest whole number; no public contract cites them.
-- Definitions only.
use Rattle.std.specs.Prelude.{ℕ, ◌%◌, ◌^◌, ◌≤◌, ◌<◌, cond, eqb}
use Rattle.times.specs.Times.{halves_to_even}

-- m / 2 ^ k with m of 53 digits and k such that the whole part is a u32
pub record Splits (m k : ℕ) : Type 0 where
  pub digits : m < 2 ^ 53
  pub least : 21 ≤ k
  pub most : k < 64

-- how far a half behind a whole number goes by a rule: to the next one, or to even
abbrev pub half_step : (rule whole : ℕ) → ℕ
half_step rule whole = cond (eqb rule halves_to_even) (whole % 2) 1
