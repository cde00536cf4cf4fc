-- So many events from a cursor on, one step more. Assumes nothing.
use Rattle.std.proofs.Common.{◌≡◌, ℕ, zero, suc, ◌≤◌, Bool, List, [], ◌∷◌, refl, sym, arith}
use mathlib.Core.Logic.{◌≢◌}
use Rattle.game.specs.declared.Event.{Event}
use Rattle.evf_events.specs.declared.EventCursor.{EventCursor}
use Rattle.evf_events.specs.declared.Step.{Step}
use Rattle.evf_events.specs.declared.Step.TheVariants.{Got as Next, End, Refused}
use Rattle.evf_events.specs.Events.{step_of, first_events}

module _ (file : List ℕ) (c : EventCursor) where
  pub first_next : (n : ℕ) {d : EventCursor} {e : Event} → step_of file c ≡ Next e d
      → first_events (suc n) file c ≡ e ∷ first_events n file d
  unfolding first_events
  first_next n q = rw q

  pub first-end : (n : ℕ) {at : ℕ} {k : Bool} → step_of file c ≡ End at k → first_events n file c ≡ []
  unfolding first_events
  first-end zero q = refl
  first-end (suc n) q = rw q

  pub first_refused : (n : ℕ) {k : ℕ} → step_of file c ≡ Refused k → first_events n file c ≡ []
  unfolding first_events
  first_refused zero q = refl
  first_refused (suc n) q = rw q

  -- where the next step gives no event
  pub first_none : (n : ℕ) (s : Step) → s ≡ step_of file c
      → ((e : Event) (d : EventCursor) → s ≢ Next e d) → first_events n file c ≡ []
  first_none n (Next e d) q none = absurd (none e d refl)
  first_none n (End at k) q none = first-end n (sym q)
  first_none n (Refused k) q none = first_refused n (sym q)

  pub first-zero : (n : ℕ) → n ≤ 0 → first_events n file c ≡ []
  unfolding first_events
  first-zero zero h = refl
  first-zero (suc n) h = absurd (omega arith)
