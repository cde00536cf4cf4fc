-- Game states counted along the cursor. Assumes nothing.
--     Counts            some were counted, and the rest are those of n steps from c on
--     counts-none       before the first step
--     counts-more       a step that gives an event
--     counts_all        where no steps are left, or the next one gives no event
use Prim.Native.Nat.{ℕ, suc, ◌+◌, ◌≤◌}
use mathlib.Core.Path.{◌≡◌, ap}
use mathlib.Core.List.{List, []}
use native.Mathlib.Omega.{arith}
use Rattle.game.specs.declared.Event.{Event}
use Rattle.game.specs.declared.Event.TheVariants.{Mouse, State}
use Rattle.evf_events.specs.declared.EventCursor.{EventCursor}
use Rattle.evf_events.specs.declared.Step.TheVariants.{Got as Next}
use Rattle.evf_events.specs.Events.{step_of, first_events}
use Rattle.evf_events.proofs.Firsts.{first_next}
use Rattle.left_out.specs.LeftOut.{state_count, states_in}

pub at_most_one : (e : Event) → state_count e ≤ 1
at_most_one (Mouse seconds kind x y) = omega arith
at_most_one (State seconds state) = omega arith

pub record Counts (file : List ℕ) (c : EventCursor) (all events states left : ℕ) : Type 0 where
  pub few : states + left ≤ events
  pub sum : states + states_in (first_events left file c) ≡ all

module _ (file : List ℕ) (c : EventCursor) where
  pub counts-none : (n : ℕ) → Counts file c (states_in (first_events n file c)) n 0 n
  counts-none n = record { few = omega arith; sum = omega arith }

  module _ {all events states : ℕ} where
    pub counts-more : (m n : ℕ) {e : Event} {k : EventCursor} → m ≡ suc n → step_of file c ≡ Next e k
        → Counts file c all events states m → Counts file k all events (states + state_count e) n
    counts-more m n {e} h q w =
        let f = ap states_in (first_next file c n q) in
        let v = rw h at w in
        record { few = omega (arith, v.few, at_most_one e); sum = omega (arith, f, v.sum) }

    pub counts_all : (n : ℕ) → first_events n file c ≡ [] → Counts file c all events states n
        → (states ≡ all) × (states ≤ events)
    counts_all n q w =
        let f : states_in (first_events n file c) ≡ 0 = ap states_in q in
        (omega (arith, f, w.sum), omega (arith, w.few))
