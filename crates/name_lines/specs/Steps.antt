-- Names gathered from an input that comes in blocks: what one call does, and what the calls over all blocks
-- tell. Definitions only.
use Rattle.std.specs.Prelude.{ℕ, ◌+◌, ◌<◌, min, ◌≡◌, true, false, cond, ◌||◌, List, [], ◌∷◌, ◌++◌, eqb, ltb, length, take, drop}
use Rattle.std.proofs.lemmas.List.Edits.{sets}
use Rattle.lines.specs.Fields.{newline}
use Rattle.name_lines.specs.declared.Gathered.{Gathered}
use Rattle.name_lines.specs.declared.Taken.{Taken}
use Rattle.name_lines.specs.NameLines.{holds, Name, told_names}

-- the bytes before the first newline, or all
abbrev pub first_line : List ℕ → List ℕ
first_line [] = []
first_line (b ∷ s) = cond (eqb b newline) [] (b ∷ first_line s)

-- n bytes more of a line, in a buffer with so much room
unfoldable pub gather_more : ℕ → Gathered → ℕ → Gathered
gather_more room from n = record {
  len = min room (from.len + n);
  long = from.long || ltb room (from.len + n);
}

-- the rest of a line that begins in the rest of a block: it ends where a newline is there, and the next line
-- begins behind that
abbrev pub taken_of : ℕ → List ℕ → ℕ → Gathered → Taken
taken_of room rest at from = record {
  gathered = gather_more room from (length (first_line rest));
  ended = holds newline rest;
  at = at + length (first_line rest) + cond (holds newline rest) 1 0;
}

unfoldable pub take_line : ℕ → List ℕ → ℕ → Gathered → Taken
take_line room block at from = taken_of room (drop at block) at from

-- What a call on a block from a place on does: the bytes up to the newline go behind those that the buffer
-- d has already, and what has no room is dropped.
pub record TakesLine (block : List ℕ) (at : ℕ) (d : List ℕ) (from : Gathered) (d' : List ℕ)
    (r : Taken) : Type 0 where
  pub name_is : d' ≡ sets d from.len (first_line (drop at block))
  pub is : r ≡ take_line (length d) block at from

-- what is gathered where a line begins
abbrev pub nothing : Gathered
nothing = record { len = 0; long = false }

-- the name that stands in a buffer, if there is one
abbrev pub name_in : List ℕ → Gathered → List Name
name_in d g = cond (eqb g.len 0) [] (record { bytes = take g.len d; long = g.long } ∷ [])

-- The calls over the blocks of an input, from a place of the first one on: the names that are told. A line
-- that ends tells its name, and the next one starts with nothing; a block that ends leaves what is gathered
-- for the next one; where the input ends, an unfinished line tells its name.
pub data Run : List (List ℕ) → ℕ → List ℕ → Gathered → List Name → Type 0 where
  input_ends : {at : ℕ} {d : List ℕ} {g : Gathered} → Run [] at d g (name_in d g)
  block_ends : {block : List ℕ} {blocks : List (List ℕ)} {at : ℕ} {d d' : List ℕ} {g : Gathered}
      {t : Taken} {names : List Name}
      → TakesLine block at d g d' t → t.ended ≡ false
      → Run blocks 0 d' t.gathered names → Run (block ∷ blocks) at d g names
  line_ends : {block : List ℕ} {blocks : List (List ℕ)} {at : ℕ} {d d' : List ℕ} {g : Gathered}
      {t : Taken} {names : List Name}
      → TakesLine block at d g d' t → t.ended ≡ true
      → Run (block ∷ blocks) t.at d' nothing names
      → Run (block ∷ blocks) at d g (name_in d' t.gathered ++ names)

-- blocks one behind the other
abbrev pub joined : List (List ℕ) → List ℕ
joined [] = []
joined (block ∷ blocks) = block ++ joined blocks

-- THE PROMISE, proved as `names_told` in proofs/Whole.antt: over any blocks, and in any buffer that has room
-- for a byte, the calls tell just the names of the blocks joined, in their order, each cut to the room and
-- marked where it was longer. So none is lost, made or told twice, and the edges of blocks do not matter.
abbrev pub TellsNames : Type 0
TellsNames = (blocks : List (List ℕ)) (d : List ℕ) (names : List Name)
    → 0 < length d → Run blocks 0 d nothing names → names ≡ told_names (length d) (joined blocks)
