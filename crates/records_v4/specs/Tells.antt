-- What `first_record` and `later_record` promise: the record of version 4 at a place, without the event's
-- seconds (01, Events; Refusals 1, 8 and 9). Definitions only.
use Rattle.std.specs.Prelude.{ℕ, ◌+◌, ◌≤◌, ◌<◌, ◌≡◌, List, length}
use Rattle.game.specs.declared.MouseKind.{MouseKind}
use Rattle.byte_reader.specs.Reading.{ok, no}
use Rattle.record_fields.specs.Fields.{mouse}
use Rattle.records_v4.specs.declared.FirstRecord.{FirstRecord}
use Rattle.records_v4.specs.declared.FirstRecord.TheVariants.{Mouse as First, Refused as Unread}
use Rattle.records_v4.specs.declared.LaterRecord.{LaterRecord}
use Rattle.records_v4.specs.declared.LaterRecord.TheVariants.{Mouse, State, Stop, Skip, Pause, Refused}
use Rattle.records_v4.specs.Records.{first_record, moves, becomes, Later, stops, skips, pauses, event}
use Rattle.records_v4.specs.Records.{later_record}

-- the number of the refusal, 0 for none
abbrev pub first_record_number : FirstRecord → ℕ
first_record_number (First kind ms x y) = 0
first_record_number (Unread n) = n

abbrev pub later_record_number : LaterRecord → ℕ
later_record_number (Mouse kind wait dx dy) = 0
later_record_number (State state wait) = 0
later_record_number Stop = 0
later_record_number Skip = 0
later_record_number (Pause ms) = 0
later_record_number (Refused n) = n

-- at a place stands a whole record of n bytes
pub record StandsFirst (file : List ℕ) (at : ℕ) (kind : MouseKind) (ms x y : ℕ) : Type 0 where
  pub is : first_record file at ≡ ok (mouse kind ms x y) (at + 6)
  pub inside : at + 6 ≤ length file

pub record Stands (file : List ℕ) (at : ℕ) (r : Later) (n : ℕ) : Type 0 where
  pub is : later_record file at ≡ ok r (at + n)
  pub inside : at + n ≤ length file

-- what is known of a place by what was found there
abbrev pub FirstMeaning : List ℕ → (at : ℕ) → FirstRecord → Type 0
FirstMeaning file at (First kind ms x y) = StandsFirst file at kind ms.0 x y × (ms.0 < 256)
FirstMeaning file at (Unread n) = first_record file at ≡ no n

abbrev pub LaterMeaning : List ℕ → (at : ℕ) → LaterRecord → Type 0
LaterMeaning file at (Mouse kind wait dx dy) = Stands file at (event wait (moves kind dx dy)) 6
LaterMeaning file at (State state wait) = Stands file at (event wait (becomes state)) 2
LaterMeaning file at Stop = Stands file at stops 1
LaterMeaning file at Skip = Stands file at skips 1
LaterMeaning file at (Pause ms) = Stands file at (pauses ms) 3
LaterMeaning file at (Refused n) = later_record file at ≡ no n

pub record TellsFirst (file : List ℕ) (at : ℕ) (found : FirstRecord) : Type 0 where
  pub means : FirstMeaning file at found

pub record TellsLater (file : List ℕ) (at : ℕ) (found : LaterRecord) : Type 0 where
  pub means : LaterMeaning file at found
