-- When a game started and ended, in versions 0 to 3 by the software's name (01, Header; Refusals 4 to 6).
-- Definitions only.
use Rattle.std.specs.Prelude.{ℕ, ◌+◌, ◌*◌, Bool, true, false, cond, ◌&&◌, ◌||◌, List, [], ◌∷◌, eqb, ltb}
use Rattle.std.specs.Prelude.{Option, Some, None}
use Rattle.text.specs.Decimals.{decimal_of}
use Rattle.times.specs.declared.GameMs.{GameMs}
use Rattle.times.specs.Times.{calendar_of}
use Rattle.game.specs.Refusals.{arbiter, time_not_decimal, time_too_large}
use Rattle.header_fields.specs.Fields.{span_of}
use Rattle.header_software.specs.declared.Times.{Times}
use Rattle.header_software.specs.declared.Times.TheVariants.{Known, Refused}

-- a text begins with these bytes
abbrev pub begins_with : (what text : List ℕ) → Bool
begins_with [] s = true
begins_with (w ∷ ws) [] = false
begins_with (w ∷ ws) (b ∷ s) = eqb b w && begins_with ws s

-- `Arbiter`, `Viennasweeper`, and the three bytes of 元
abbrev pub arbiter_name : List ℕ
arbiter_name = 65 ∷ 114 ∷ 98 ∷ 105 ∷ 116 ∷ 101 ∷ 114 ∷ []

abbrev pub vienna_name : List ℕ
vienna_name = 86 ∷ 105 ∷ 101 ∷ 110 ∷ 110 ∷ 97 ∷ 115 ∷ 119 ∷ 101 ∷ 101 ∷ 112 ∷ 101 ∷ 114 ∷ []

abbrev pub yuan_name : List ℕ
yuan_name = 0xE5 ∷ 0x85 ∷ 0x83 ∷ []

-- the number of the refusal, 0 for none
abbrev pub times_number : Times → ℕ
times_number (Known span) = 0
times_number (Refused n) = n

-- the largest number of eight bytes
abbrev pub largest_u64 : ℕ
largest_u64 = 18446744073709551615

-- Viennasweeper tells whole seconds of the start; the end is the game's time later. Its end text counts for
-- nothing
unfoldable pub vienna : Option ℕ → GameMs → Times
vienna None time = Refused time_not_decimal
vienna (Some n) time =
    let start = n * 1000000 in
    let end = start + (calendar_of time).0 in
    cond (ltb largest_u64 start || ltb largest_u64 end) (Refused time_too_large) (Known (span_of start end))

-- 元 tells microseconds of both
unfoldable pub yuan : Option ℕ → Option ℕ → Times
yuan None end = Refused time_not_decimal
yuan (Some a) None = Refused time_not_decimal
yuan (Some a) (Some b) = Known (span_of a b)

-- any other software but Arbiter tells neither
unfoldable pub times_of : (software start end : List ℕ) → GameMs → Times
times_of software start end time =
    cond (begins_with arbiter_name software) (Refused arbiter)
    (cond (begins_with vienna_name software) (vienna (decimal_of start) time)
    (cond (begins_with yuan_name software) (yuan (decimal_of start) (decimal_of end))
    (Known (span_of 0 0))))
