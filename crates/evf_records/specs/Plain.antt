-- Plain events: mouse events that version 4 holds in a record without a pause. Definitions only.
use Rattle.std.specs.Prelude.{ℕ, ◌-◌, Bool, not, ◌&&◌, leb}
use Rattle.game.specs.declared.MouseKind.{MouseKind}
use Rattle.mouse_records.specs.Pauses.{longest_wait}
use Rattle.evf_records.specs.Refusals.{is_ub}

-- the bytes of such a record
abbrev pub plain_length : ℕ
plain_length = 6

-- a kind with a code, not before the mouse event at `last` ms, and after a wait that the record tells by
-- itself
unfoldable pub is_plain : (last : ℕ) → MouseKind → (ms : ℕ) → Bool
is_plain last kind ms = not (is_ub kind) && (leb last ms && leb (ms - last) longest_wait)
