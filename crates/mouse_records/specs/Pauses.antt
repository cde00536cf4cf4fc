-- How version 4 tells a wait (01, "Version 4 writer and upgrade"). Definitions only.
use Rattle.std.specs.Prelude.{ℕ, zero, suc, ◌-◌, min, true, false, List, [], ◌∷◌, ◌++◌, nat_le}
use Rattle.byte_reader.specs.Numbers.{bytes_of}

-- the longest wait that a record tells by itself, and the longest pause
abbrev pub longest_wait : ℕ
longest_wait = 255

abbrev pub longest_pause : ℕ
longest_pause = 65535

-- the pause that goes out while a wait is too long: the smaller of the longest one and the wait
abbrev pub pause_in : ℕ → ℕ
pause_in wait = min longest_pause wait

-- while the wait is too long, the code 255 and a pause go out
unfoldable pub pauses : ℕ → (wait : ℕ) → List ℕ
pauses zero wait = []
pauses (suc turns) wait = elim (nat_le wait longest_wait) [
  | true ↦ []
  | false ↦ 255 ∷ bytes_of 2 (pause_in wait) ++ pauses turns (wait - pause_in wait)
]

-- and what is left of the wait then
unfoldable pub rest : ℕ → (wait : ℕ) → ℕ
rest zero wait = wait
rest (suc turns) wait = elim (nat_le wait longest_wait) [
  | true ↦ wait
  | false ↦ rest turns (wait - pause_in wait)
]

-- a pause takes a millisecond or more, so as many turns as milliseconds will do
unfoldable pub pauses_of : ℕ → List ℕ
pauses_of wait = pauses wait wait

unfoldable pub rest_of : ℕ → ℕ
rest_of wait = rest wait wait
