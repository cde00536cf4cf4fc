-- What stands for a cell and for an entry of the row in a framed game. Definitions only.
use Rattle.std.specs.Prelude.{ℕ, ◌-◌, cond, ltb, ℤ, pos, negsuc, Float, Option, Some, None}
use Rattle.std.specs.Float.{binary64}
use Rattle.std.specs.Float.Ieee.{of_bits}
use Rattle.game.specs.declared.Event.{Event}
use Rattle.game.specs.declared.Event.TheVariants.{Mouse, State}
use Rattle.game.specs.declared.GameState.{GameState}
use Rattle.game.specs.Kinds.{kind_of, state_of}
use Rattle.byte_reader.specs.Reading.{Reader, ◌>>=◌, pure}
use Rattle.byte_reader.specs.Numbers.{number}

-- the cell of a byte: two's complement
unfoldable pub signed_cell : ℕ → ℤ
signed_cell b = cond (ltb b 128) (pos b) (negsuc (255 - b))

abbrev pub event_for : Option GameState → ℕ → Float → ℕ → ℕ → Event
event_for (Some state) code seconds x y = State seconds state
event_for None code seconds x y = Mouse seconds (kind_of code) x y

-- the code of a state, or else of a mouse kind
unfoldable pub event_of : ℕ → Float → ℕ → ℕ → Event
event_of code seconds x y = event_for (state_of code) code seconds x y

-- the code, the bits of the seconds, and the position, which a state has too
unfoldable pub entry : Reader Event
entry = do
  code ← number 1
  bits ← number 8
  x ← number 2
  y ← number 2
  pure (event_of code (of_bits binary64 bits) x y)
