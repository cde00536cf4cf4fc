-- The line of an event, as programs print it (01, the program `evflist`). Definitions only.
use Rattle.std.specs.Prelude.{ℕ, List, [], ◌∷◌, ◌++◌, take}
use Rattle.times.specs.Times.{halves_away, s_to_ms}
use Rattle.game.specs.declared.MouseKind.{MouseKind}
use Rattle.game.specs.declared.GameState.{GameState}
use Rattle.game.specs.declared.Event.{Event}
use Rattle.game.specs.declared.Event.TheVariants.{Mouse, State}
use Rattle.names.specs.declared.Name.{Name}
use Rattle.names.specs.Names.{kind_name, state_name}
use Rattle.lines.specs.Fields.{column, newline}

-- the letters of a name
abbrev pub letters : Name → List ℕ
letters name = take name.len name.bytes

-- the line of a mouse event: kind, milliseconds, x, y
unfoldable pub mouse_line : MouseKind → (ms x y : ℕ) → List ℕ
mouse_line kind ms x y = letters (kind_name kind) ++ column ms ++ column x ++ column y ++ newline ∷ []

-- the line of a game state: its name, milliseconds
unfoldable pub state_line : GameState → (ms : ℕ) → List ℕ
state_line state ms = letters (state_name state) ++ column ms ++ newline ∷ []

-- the line of an event; its milliseconds are by rule 1
abbrev pub event_line : Event → List ℕ
event_line (Mouse seconds kind x y) = mouse_line kind (s_to_ms halves_away seconds) x y
event_line (State seconds state) = state_line state (s_to_ms halves_away seconds)

-- three numbers, each behind a tab
unfoldable pub three_columns : (a b c : ℕ) → List ℕ
three_columns a b c = column a ++ column b ++ column c
