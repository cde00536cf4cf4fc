-- A name as it is shown: one byte for each, none that a terminal could take for a command. Definitions only.
use Rattle.std.specs.Prelude.{ℕ, cond, ◌||◌, List, ◌++◌, map, eqb, ltb, take}
use Rattle.lines.specs.Ascii.{ascii}

-- a byte below 32, and 127, as `?`
abbrev pub shown_byte : ℕ → ℕ
shown_byte b = cond (ltb b 32 || eqb b 127) 63 b

abbrev pub shown_name : List ℕ → List ℕ
shown_name name = map shown_byte name

-- the start of a name that is too long
abbrev pub shown_start : List ℕ → List ℕ
shown_start name = shown_name (take 64 name) ++ ascii "..."
