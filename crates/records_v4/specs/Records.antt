-- The event records of version 4 (01, Events; Refusals 1, 8 and 9). Definitions only.
use Rattle.std.specs.Prelude.{ℕ, Bool, cond, ◌&&◌, ◌||◌, eqb, leb}
use Rattle.game.specs.declared.MouseKind.{MouseKind}
use Rattle.game.specs.declared.GameState.{GameState}
use Rattle.std.specs.Prelude.{Option, Some, None}
use Rattle.game.specs.Kinds.{kind_of, begins, state_of}
use Rattle.game.specs.Refusals.{first_code_unknown, code_unknown}
use Rattle.byte_reader.specs.Reading.{Reader, ◌>>=◌, pure, refuse}
use Rattle.byte_reader.specs.Numbers.{number}
use Rattle.record_fields.specs.Fields.{Whole, mouse_body}

-- THE FIRST RECORD: a mouse event by itself

-- the codes that version 4 may begin with: 1, 2, 4 and 8, by their kinds
unfoldable pub is_first : (code : ℕ) → Bool
is_first code = begins (kind_of code)

abbrev pub first_body : (code : ℕ) → Reader Whole
first_body code = cond (is_first code) (mouse_body 1 (kind_of code)) (refuse first_code_unknown)

unfoldable pub first_record : Reader Whole
first_record = do
  code ← number 1
  first_body code

-- AFTER THE FIRST: an event is told by what it changes, and not every record is one

pub data Change : Type 0 where
  moves : MouseKind → (dx dy : ℕ) → Change
  becomes : GameState → Change

pub data Later : Type 0 where
  stops : Later
  skips : Later
  pauses : (ms : ℕ) → Later
  event : (wait : ℕ) → Change → Later

unfoldable pub move_body : MouseKind → Reader Later
move_body kind = do
  wait ← number 1
  dx ← number 2
  dy ← number 2
  pure (event wait (moves kind dx dy))

unfoldable pub pause_body : Reader Later
pause_body = do
  ms ← number 2
  pure (pauses ms)

-- the codes that stand for nothing
unfoldable pub unnamed : (code : ℕ) → Bool
unnamed code = (leb 13 code && leb code 80) || (leb 84 code && leb code 98)

-- a game state; an unnamed code, which has none, is refused before
unfoldable pub state_body : Option GameState → Reader Later
state_body (Some state) = do
  wait ← number 1
  pure (event wait (becomes state))
state_body None = refuse code_unknown

-- the codes of a later record: the end, the largest of a mouse event, the smallest that is skipped alone, a
-- pause
abbrev pub end_code : ℕ
end_code = 0

abbrev pub last_kind : ℕ
last_kind = 12

abbrev pub first_skipped : ℕ
first_skipped = 100

abbrev pub pause_code : ℕ
pause_code = 255

abbrev pub later_body : (code : ℕ) → Reader Later
later_body code =
    cond (eqb code end_code) (pure stops)
    (cond (leb code last_kind) (move_body (kind_of code))
    (cond (eqb code pause_code) pause_body
    (cond (leb first_skipped code) (pure skips)
    (cond (unnamed code) (refuse code_unknown)
    (state_body (state_of code))))))

unfoldable pub later_record : Reader Later
later_record = do
  code ← number 1
  later_body code
