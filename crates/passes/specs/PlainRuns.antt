-- What the private functions of `plain` promise: a run of plain events taken at once leaves to be judged, or
-- written, what one event at a time would. Definitions only.
use Rattle.std.specs.Prelude.{◌≡◌, ℕ, ◌+◌, ◌/◌, ◌<◌, ◌≤◌, Bool, List, ◌∷◌, ◌++◌, length, nat_le}
use Rattle.byte_reader.specs.Numbers.{bytes_of}
use Rattle.records_v4.specs.declared.mouse.MouseRecord.{MouseRecord}
use Rattle.mouse_records.specs.declared.Last.{Last}
use Rattle.evf_records.specs.declared.Seen.{Seen}
use Rattle.evf_records.specs.declared.Run.{Run}
use Rattle.evf_records.specs.Plain.{plain_length}
use Rattle.evf_records.specs.Steps.{seen_past}
use Rattle.passes.specs.EventPasses.{old_events, survey_by, PutsEvents}

-- the bytes of a record without pauses
abbrev pub plain_bytes : MouseRecord → List ℕ
plain_bytes r = r.code ∷ r.wait ∷ bytes_of 2 r.dx ++ bytes_of 2 r.dy

-- a buffer of n bytes has room for a record without pauses at a place
pub record HasRoom (n at : ℕ) (r : Bool) : Type 0 where
  pub is : r ≡ nat_le (at + plain_length) n

-- what is known behind a run that takes n bytes, and its last event
abbrev pub seen_to : Seen → Last → (n : ℕ) → Seen
seen_to s last n = seen_past s last (n / plain_length) n

-- judged on from a place and from one behind it, all comes to the same
pub record LooksOn (file : List ℕ) (version from : ℕ) (seen : Seen) (at : ℕ) (seen' : Seen) : Type 0 where
  pub right : version < 4
      → survey_by seen' (old_events version file at) ≡ survey_by seen (old_events version file from)
  pub further : from ≤ at

-- and so it is with writing: what is right from there is right from here
pub record PutsOn (file : List ℕ) (version from : ℕ) (run : Run) (out : List ℕ) (at : ℕ) (run' : Run)
    (out' : List ℕ) : Type 0 where
  pub right : (last : List ℕ) → PutsEvents file version at run' out' last
      → PutsEvents file version from run out last
  pub further : from ≤ at
  pub long : length out' ≡ length out
