-- What `old_record` promises: the record of versions 0 to 3 at a place, without the event's seconds (01,
-- Events; Refusal 1). Definitions only.
use Rattle.std.specs.Prelude.{ℕ, ◌+◌, ◌≤◌, ◌≡◌, List, length}
use Rattle.times.specs.Times.{largest_ms}
use Rattle.byte_reader.specs.Reading.{ok, no}
use Rattle.records_v0_v3.specs.declared.OldRecord.{OldRecord}
use Rattle.records_v0_v3.specs.declared.OldRecord.TheVariants.{Mouse, End, Refused}
use Rattle.record_fields.specs.Fields.{Whole, ends, mouse}
use Rattle.records_v0_v3.specs.Records.{old_record}

-- the number of the refusal, 0 for none
abbrev pub old_record_number : OldRecord → ℕ
old_record_number (Mouse kind ms x y) = 0
old_record_number (End checksum) = 0
old_record_number (Refused n) = n

-- at a place stands a whole record of n bytes
pub record StandsOld (version : ℕ) (file : List ℕ) (at : ℕ) (r : Whole) (n : ℕ) : Type 0 where
  pub is : old_record version file at ≡ ok r (at + n)
  pub inside : at + n ≤ length file

-- what is known of a place by what was found there; milliseconds are three bytes, so a u32 has them
abbrev pub OldMeaning : (version : ℕ) → List ℕ → (at : ℕ) → OldRecord → Type 0
OldMeaning version file at (Mouse kind ms x y) =
    StandsOld version file at (mouse kind ms.0 x y) 8 × (ms.0 ≤ largest_ms)
OldMeaning version file at (End checksum) = StandsOld version file at (ends checksum) 1
OldMeaning version file at (Refused n) = old_record version file at ≡ no n

pub record TellsOld (version : ℕ) (file : List ℕ) (at : ℕ) (found : OldRecord) : Type 0 where
  pub means : OldMeaning version file at found
