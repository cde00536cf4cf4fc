-- A row by two conversions that give each of its mouse events the same milliseconds. Assumes nothing.
--     timed-same     two conversions that bring whole milliseconds back are such, at whole milliseconds
--     bytes_same     its bytes are the same in every version
--     start-same     and so is what is said of its start; event-same and of its other entries
use Prim.Native.Nat.{ℕ, ◌^◌, ◌<◌}
use mathlib.Core.Path.{◌≡◌, refl, sym, ap, ◌∙◌}
use mathlib.Core.Bool.{Bool, ◌||◌}
use mathlib.Core.List.{List, [], ◌∷◌, ◌++◌}
use lib.Dec.{ltb}
use lib.Ieee.{Float}
use Rattle.times.specs.Times.{seconds_of}
use Rattle.game.specs.declared.Event.{Event}
use Rattle.game.specs.declared.Event.TheVariants.{Mouse, State}
use Rattle.game.specs.Limits.{largest_u24}
use Rattle.mouse_records.specs.declared.Last.{Last}
use Rattle.mouse_records.specs.Records.{entry_bytes, last_after, row_bytes}
use Rattle.evf_records.specs.Refusals.{is_ub, falls_after, too_late, start_unwritable, event_unwritable}
use Rattle.read_back.specs.Saved.{mouse_events, Timed, no_events, at_ms}

module _ (f g : Float → ℕ) where
  -- each mouse event at the same milliseconds
  abbrev pub SameMs : List Event → Type 0
  SameMs [] = Unit {0}
  SameMs (Mouse seconds kind x y ∷ es) = (f seconds ≡ g seconds) × SameMs es
  SameMs (State seconds state ∷ es) = SameMs es

  -- whole milliseconds that both bring back
  module _ (f-back : (ms : ℕ) → ms < 2 ^ 32 → f (seconds_of ms) ≡ ms)
      (g-back : (ms : ℕ) → ms < 2 ^ 32 → g (seconds_of ms) ≡ ms) where
    mice-same : {row : List Event} → Timed row → SameMs row
    mice-same no_events = tt
    mice-same (at_ms {ms = ms} e h t) =
        (ap f e ∙ f-back ms h ∙ sym (ap g e ∙ g-back ms h), mice-same t)

    -- game states do not matter
    stated : (row : List Event) → SameMs (mouse_events row) → SameMs row
    stated [] s = tt
    stated (Mouse seconds kind x y ∷ es) s = (s.0, stated es s.1)
    stated (State seconds state ∷ es) s = stated es s

    pub timed-same : (row : List Event) → Timed (mouse_events row) → SameMs row
    timed-same row t = stated row (mice-same t)

  -- ITS BYTES
  pub bytes_same : (row : List Event) → SameMs row → (version : ℕ) (last : Last)
      → row_bytes f version last row ≡ row_bytes g version last row
  bytes_same [] s version last = refl
  bytes_same (Mouse seconds kind x y ∷ es) s version last =
      let e = Mouse seconds kind x y in
      rw s.0
      (ap (λ (l : List ℕ). entry_bytes g version last e ++ l)
      (bytes_same es s.1 version (last_after g last e)))
  bytes_same (State seconds state ∷ es) s version last = bytes_same es s version last

  -- ITS REFUSALS
  pub start-same : (row : List Event) → SameMs row → (version : ℕ)
      → start_unwritable f version row ≡ start_unwritable g version row
  unfolding start_unwritable
  start-same [] s version = refl
  start-same (Mouse seconds kind x y ∷ es) s version = rw s.0
  start-same (State seconds state ∷ es) s version = refl

  falls-same : (row : List Event) → SameMs row → (last : ℕ) → falls_after f last row ≡ falls_after g last row
  falls-same [] s last = refl
  falls-same (Mouse seconds kind x y ∷ es) s last =
      rw s.0
      (ap (λ (b : Bool). (is_ub kind || ltb (g seconds) last) || b) (falls-same es s.1 (g seconds)))
  falls-same (State seconds state ∷ es) s last = falls-same es s last

  late-same : (row : List Event) → SameMs row → too_late f row ≡ too_late g row
  late-same [] s = refl
  late-same (Mouse seconds kind x y ∷ es) s =
      rw s.0 (ap (λ (b : Bool). ltb largest_u24 (g seconds) || b) (late-same es s.1))
  late-same (State seconds state ∷ es) s = late-same es s

  pub event-same : (row : List Event) → SameMs row → (version : ℕ)
      → event_unwritable f version row ≡ event_unwritable g version row
  unfolding event_unwritable
  event-same row s version = rw (falls-same row s 0, late-same row s)
