-- What the two passes over a file's events promise. Definitions only.
use Rattle.std.specs.Prelude.{◌≡◌, ℕ, ◌<◌, Bool, List}
use Rattle.game.specs.declared.Event.{Event}
use Rattle.evf_events.specs.Events.{Events, read, refused, events_from}
use Rattle.evf_events.specs.Start.{first_cursor}
use Rattle.evf_records.specs.declared.Seen.{Seen}
use Rattle.evf_records.specs.declared.Run.{Run}
use Rattle.evf_records.specs.Steps.{unseen, seen_by, put_by}
use Rattle.passes.specs.declared.Survey.{Survey}
use Rattle.passes.specs.declared.Survey.TheVariants.{All, Refused}

-- the events of versions 0 to 3 from a place on
abbrev pub old_events : (version : ℕ) → List ℕ → (at : ℕ) → Events
old_events version file at = events_from file (first_cursor version at)

-- a survey that has seen some events and has these before it
abbrev pub survey_by : Seen → Events → Survey
survey_by seen (read es at checksum) = All (seen_by seen es) at checksum
survey_by seen (refused n) = Refused n

-- the events from a place on, judged and measured for version 4 by a rule
pub record Surveys (file : List ℕ) (version from rule : ℕ) (r : Survey) : Type 0 where
  pub right : version < 4 → r ≡ survey_by (unseen 4 rule) (old_events version file from)

-- the events of a file that can be read, written from where `run` stands
pub record PutsEvents (file : List ℕ) (version from : ℕ) (run : Run) (out out' : List ℕ) : Type 0 where
  pub right : version < 4 → (es : List Event) (at : ℕ) (checksum : Bool)
      → old_events version file from ≡ read es at checksum
      → out' ≡ (put_by run out es).1
