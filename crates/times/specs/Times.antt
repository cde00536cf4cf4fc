-- Game milliseconds, as a count and as a binary64 of seconds (01, Times), and the rules by which the one
-- becomes the other (02, note 5). Definitions only, in the words of `lib.Ieee`.
use Rattle.std.specs.Prelude.{◌≡◌, ℕ, ◌+◌, ◌*◌, ◌/◌, ◌%◌, ◌<◌, min, Bool, true, false, cond, ◌||◌, eqb, pos, Float}
use Rattle.std.specs.Float.{nan, inf, fin, binary64}
use Rattle.std.specs.Float.Ieee.{up, down, of_int, mul, div}
use Rattle.times.specs.declared.GameMs.{GameMs}
use Rattle.times.specs.declared.CalendarUs.{CalendarUs}
use Rattle.times.specs.declared.Converted.{Converted}
use Rattle.times.specs.declared.Converted.TheVariants.{Ms, Refused}

-- 1000.0, which is 125 * 2 ^ 3
abbrev pub thousand : Float
thousand = fin false 125 (pos 3)

-- n milliseconds in seconds: n / 1000.0, one division of IEEE 754. (A u32 as a binary64 is exact.)
unfoldable pub seconds_of : ℕ → Float
seconds_of n = div binary64 (of_int binary64 (pos n)) thousand

-- a / b to the nearest whole number, a half away from zero, which for what is not negative is up: the whole
-- part of a / b + 1 / 2
abbrev pub half_away : ℕ → ℕ → ℕ
half_away a b = (2 * a + b) / (2 * b)

-- a / b to the nearest whole number, a half to the even one of the two beside it, which is the whole part or
-- the number behind it (02, note 5)
abbrev pub half_even : ℕ → ℕ → ℕ
half_even a b = cond (eqb (a % b * 2) b) (a / b + a / b % 2) (half_away a b)

-- what every rounding to the nearest whole number has to do: give n at a fraction a / b that is nearer to n
-- than a half. At a half it is free
abbrev pub Nearest : (rounding : ℕ → ℕ → ℕ) → Type 0
Nearest rounding = (a b n : ℕ) → 0 < b → a * 2 < n * b * 2 + b → n * b * 2 < a * 2 + b → rounding a b ≡ n

-- the largest u32, at which milliseconds stop
abbrev pub largest_ms : ℕ
largest_ms = 4294967295

-- A float as a u32, by a rounding of fractions to whole numbers. NaN and negatives give 0; what is
-- above the largest u32 gives that. A float that is not negative is the exact fraction m * up e / down e.
unfoldable pub whole_by : (rounding : ℕ → ℕ → ℕ) → Float → ℕ
whole_by rounding nan = 0
whole_by rounding (inf s) = cond s 0 largest_ms
whole_by rounding (fin true m e) = 0
whole_by rounding (fin false m e) = min (rounding (m * up e) (down e)) largest_ms

-- s seconds in milliseconds: s * 1000.0, rounded once to a binary64, then to a whole number
unfoldable pub ms_by : (rounding : ℕ → ℕ → ℕ) → Float → ℕ
unfolding whole_by
ms_by rounding s = whole_by rounding (mul binary64 s thousand)

-- THE RULES BY NUMBER (02, note 5): 1 sends halves away from zero, as the Rust's `s_to_ms` does, 2 to even
abbrev pub halves_away : ℕ
halves_away = 1

abbrev pub halves_to_even : ℕ
halves_to_even = 2

abbrev pub is_rule : ℕ → Bool
is_rule rule = eqb rule halves_away || eqb rule halves_to_even

-- the refusal of a number that is no rule, wherever one is taken
abbrev pub no_such_rule : ℕ
no_such_rule = 26

-- how a rule rounds. (A number that is no rule is refused; what it would round to does not matter.)
abbrev pub rounding_of : (rule : ℕ) → ℕ → ℕ → ℕ
rounding_of rule = cond (eqb rule halves_to_even) half_even half_away

-- seconds in milliseconds by a rule
unfoldable pub s_to_ms : (rule : ℕ) → Float → ℕ
unfolding ms_by
s_to_ms rule = ms_by (rounding_of rule)

-- the conversion's answer: milliseconds, or 26 where the number is no rule
abbrev pub converted_by : (rule : ℕ) → Float → Converted
converted_by rule s = cond (is_rule rule) (Ms (record { 0 = s_to_ms rule s })) (Refused no_such_rule)

-- its number, 0 for none
abbrev pub converted_number : Converted → ℕ
converted_number (Ms ms) = 0
converted_number (Refused n) = n

-- game milliseconds as calendar microseconds, a thousand to one (01, Times)
abbrev pub calendar_of : GameMs → CalendarUs
calendar_of ms = record { 0 = ms.0 * 1000 }
