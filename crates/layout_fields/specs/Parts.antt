-- What functions promise of a part of a file: that it is written, and that it is measured. Definitions only.
use Rattle.std.specs.Prelude.{ℕ, ◌≡◌, List, [], ℤ, length}
use Rattle.game.specs.declared.Header.{Header}
use Rattle.game.specs.Same.{Game}
use Rattle.byte_writer.specs.declared.Length.{Length}
use Rattle.byte_writer.specs.Places.{plus_of}
use Rattle.layout_fields.specs.Fields.{lent}

-- a part that does not hang on the events, of a game that is lent
abbrev pub part_of : (Game → List ℕ) → Header → (bytes : List ℕ) → (board : List ℤ) → List ℕ
part_of part h bytes board = part (lent h bytes board [])

-- the length l and that of a part of the file, whose length is the same for every board
pub record Measures (part : Game → List ℕ) (h : Header) (bytes : List ℕ) (l r : Length) : Type 0 where
  pub is : (board : List ℤ) → r ≡ plus_of l (length (part_of part h bytes board))
