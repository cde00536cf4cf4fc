-- The last part of a file's name, and the name of a file in a folder. Definitions only.
use Rattle.std.specs.Prelude.{ℕ, ◌≤◌, ◌≡◌, ◌⊎◌, Bool, false, cond, List, [], ◌∷◌, ◌++◌, eqb, length, drop}
use Rattle.name_lines.specs.NameLines.{holds}

-- the byte between the parts of a name
abbrev pub slash : ℕ
slash = 47

-- what stands behind the last slash: all where there is none
unfoldable pub last_part : List ℕ → List ℕ
last_part [] = []
last_part (b ∷ s) = cond (holds slash (b ∷ s)) (last_part s) (b ∷ s)

-- THE LAST PART, otherwise said, proved as `last_part_is` in proofs/Parts.antt: it holds no slash, and before
-- it stands nothing, or what ends in a slash
pub record IsLastPart (name part : List ℕ) : Type 0 where
  pub free : holds slash part ≡ false
  pub front : List ℕ
  pub whole : name ≡ front ++ part
  pub front_ends : (front ≡ []) ⊎ ((f : List ℕ) × (front ≡ f ++ (slash ∷ [])))

-- where the last part begins
pub record LastPartAt (name : List ℕ) (at : ℕ) : Type 0 where
  pub is : drop at name ≡ last_part name
  pub fits : at ≤ length name

-- the last byte is a slash
unfoldable pub ends_in_slash : List ℕ → Bool
ends_in_slash [] = false
ends_in_slash (b ∷ []) = eqb b slash
ends_in_slash (b ∷ c ∷ s) = ends_in_slash (c ∷ s)

-- the name of a part in a folder: a slash between, unless the folder's name ends in one
abbrev pub path_of : List ℕ → List ℕ → List ℕ
path_of dir part = dir ++ (cond (ends_in_slash dir) [] (slash ∷ []) ++ part)
