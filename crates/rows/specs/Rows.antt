-- Rows of events that a caller lends (01, Events). Definitions only.
use Rattle.std.specs.Prelude.{ℕ, ◌≡◌, Bool, true, false, cond, List, [], ◌∷◌}
use Rattle.std.specs.Float.Ieee.{of_bits}
use Rattle.std.specs.Float.{binary64}
use Rattle.game.specs.declared.Event.{Event}
use Rattle.game.specs.declared.Event.TheVariants.{State}
use Rattle.game.specs.declared.GameState.TheVariants.{Replay}

-- what stands past a row's end: the state replay at 0 seconds
abbrev pub no_event : Event
no_event = State (of_bits binary64 0) Replay

-- A row that is filled by turns of a reading. What a turn took has three parts: whether there was an event,
-- the event, and the reading's state behind it. The first turn without an event is the last one, and so is
-- the one that fills the row.
module _ {S K : Type 0} (more : K → Bool) (event : K → Event) (state : K → S) (took : List ℕ → S → K)
    (file : List ℕ) where
  -- the row then: what was taken, in its order, and behind it what stood there before
  abbrev pub filled_row : S → List Event → List Event
  filled_row r [] = []
  filled_row r (e ∷ es) =
      cond (more (took file r)) (event (took file r) ∷ filled_row (state (took file r)) es) (e ∷ es)

  -- the reading's state then
  abbrev pub filled_state : S → List Event → S
  filled_state r [] = r
  filled_state r (e ∷ es) =
      cond (more (took file r)) (filled_state (state (took file r)) es) (state (took file r))

  -- from the state r on, turns give the events es, one at each turn, and the turn behind them gives none
  abbrev pub TurnsGive : S → List Event → Type 0
  TurnsGive r [] = more (took file r) ≡ false
  TurnsGive r (e ∷ es) =
      (more (took file r) ≡ true) × ((event (took file r) ≡ e) × TurnsGive (state (took file r)) es)
