-- What the private functions promise: what is left out of a file whose header is read. Definitions only.
use Rattle.std.specs.Prelude.{ℕ, List, length}
use Rattle.text.specs.declared.Place.{Place}
use Rattle.game.specs.declared.Event.{Event}
use Rattle.game.specs.declared.Header.{Header}
use Rattle.byte_reader.specs.Reading.{Got, ok, no}
use Rattle.evf_events.specs.Events.{Events, read, refused}
use Rattle.evf_video.specs.Reading.{checksum}
use Rattle.left_out.specs.declared.LeftOut.{LeftOut}
use Rattle.left_out.specs.LeftOut.{states_in, left_at, nothing}

-- by its events and the checksum behind them
abbrev pub left_behind : List ℕ → Header → List Event → Got Place → LeftOut
left_behind file h es (ok p to) = left_at file h (length es) (states_in es) to
left_behind file h es (no why) = nothing

-- by the events
abbrev pub left_by : List ℕ → Header → Events → LeftOut
left_by file h (read es at follows) = left_behind file h es (checksum h.version follows file at)
left_by file h (refused n) = nothing
