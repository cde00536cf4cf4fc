-- What the private functions promise: a game of versions 0 to 3 whose events stand in its file, answered and
-- written. Definitions only.
use Rattle.std.specs.Prelude.{ℕ, ◌<◌, ◌≡◌, Bool, List, ℤ, length}
use Rattle.text.specs.declared.Place.{Place}
use Rattle.game.specs.declared.Header.{Header}
use Rattle.game.specs.declared.Event.{Event}
use Rattle.evf_events.specs.declared.EventCursor.{EventCursor}
use Rattle.evf_events.specs.Events.{read, events_from}
use Rattle.evf_video.specs.Reading.{game}
use Rattle.evf_video.specs.Parsed.{parse_of, board_then}
use Rattle.evf_video.specs.Turns.{run_for}
use Rattle.evf_records.specs.declared.Seen.{Seen}
use Rattle.evf_records.specs.Steps.{unseen, seen_by}
use Rattle.layout_fields.specs.Fields.{lent}
use Rattle.generate_evf.specs.declared.Written.{Written}
use Rattle.upgrade.specs.Copy.{game_copied, game_copy, copied_by, copy_by}
use Rattle.upgrade.specs.declared.CopyMade.{CopyMade}

-- its board lent, its events judged
pub record CopiesJudged (file : List ℕ) (h : Header) (board : List ℤ) (c : EventCursor) (seen : Seen)
    (copy : List ℕ) (answer : Written) (copy' : List ℕ) : Type 0 where
  pub right : c.version ≡ h.version → h.version < 4 → (es : List Event) (at : ℕ) (checksum : Bool)
      → events_from file c ≡ read es at checksum → (rule : ℕ) → seen ≡ seen_by (unseen 4 rule) es
      → (answer ≡ game_copied rule (lent h file board es) (length copy))
      × (copy' ≡ game_copy rule (lent h file board es) copy)

-- its board lent
pub record CopiesGame (file : List ℕ) (h : Header) (board : List ℤ) (c : EventCursor) (copy : List ℕ)
    (rule : ℕ) (answer : Written) (copy' : List ℕ) : Type 0 where
  pub right : c.version ≡ h.version → h.version < 4 → (es : List Event) (at : ℕ) (checksum : Bool)
      → events_from file c ≡ read es at checksum
      → (answer ≡ game_copied rule (lent h file board es) (length copy))
      × (copy' ≡ game_copy rule (lent h file board es) copy)

-- its board packed at a place in the file
pub record CopiesPacked (file : List ℕ) (h : Header) (place : Place) (c : EventCursor) (copy : List ℕ)
    (rule : ℕ) (answer : Written) (copy' : List ℕ) : Type 0 where
  pub right : c.version ≡ h.version → h.version < 4 → (es : List Event) (at : ℕ) (checksum : Bool)
      → events_from file c ≡ read es at checksum
      → (answer ≡ copied_by rule file (game h place es) (length copy))
      × (copy' ≡ copy_by rule file (game h place es) copy)

-- a file to be read into a lent board and a row of n entries, and copied: the answer and what the row is
-- filled from, the board, and the copy
unfoldable pub made_for : List ℕ → List ℤ → (n : ℕ) → List ℕ → (rule : ℕ) → CopyMade
made_for file board n copy rule = record {
  written = copied_by rule file (parse_of file (length board) n) (length copy);
  run = run_for file (parse_of file (length board) n);
}

unfoldable pub board_for : List ℕ → List ℤ → (n : ℕ) → List ℕ → (rule : ℕ) → List ℤ
board_for file board n copy rule = board_then file (parse_of file (length board) n) board

unfoldable pub copy_for : List ℕ → List ℤ → (n : ℕ) → List ℕ → (rule : ℕ) → List ℕ
copy_for file board n copy rule = copy_by rule file (parse_of file (length board) n) copy
