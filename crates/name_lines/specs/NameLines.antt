-- The names of files in an input: one a line, empty lines are none, the last line needs no newline. And that
-- a name may be longer than there is room for. Definitions only.
use Rattle.std.specs.Prelude.{ℕ, Bool, false, cond, ◌||◌, List, [], ◌∷◌, ◌++◌, map, eqb, ltb, length, take}
use Rattle.lines.specs.Fields.{newline}

-- a byte stands in a text
abbrev pub holds : ℕ → List ℕ → Bool
holds x [] = false
holds x (b ∷ s) = eqb b x || holds x s

-- bytes put before the first line
abbrev pub before : List ℕ → List (List ℕ) → List (List ℕ)
before g [] = g ∷ []
before g (l ∷ ls) = (g ++ l) ∷ ls

-- an input parted at its newlines: one line more than there are newlines, any of them empty
abbrev pub lines_of : List ℕ → List (List ℕ)
lines_of [] = [] ∷ []
lines_of (b ∷ s) = cond (eqb b newline) ([] ∷ lines_of s) (before (b ∷ []) (lines_of s))

-- the lines that are not empty
abbrev pub not_empty : List (List ℕ) → List (List ℕ)
not_empty [] = []
not_empty ([] ∷ ls) = not_empty ls
not_empty ((b ∷ l) ∷ ls) = (b ∷ l) ∷ not_empty ls

-- the names of an input
abbrev pub names_of : List ℕ → List (List ℕ)
names_of s = not_empty (lines_of s)

-- a name as it is told: as many of its bytes as there is room for, and whether it has more
pub record Name : Type 0 where
  pub bytes : List ℕ
  pub long : Bool

abbrev pub told_name : ℕ → List ℕ → Name
told_name room line = record { bytes = take room line; long = ltb room (length line) }

-- the names of an input as they are told
abbrev pub told_names : ℕ → List ℕ → List Name
told_names room s = map (told_name room) (names_of s)
