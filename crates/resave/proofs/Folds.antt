-- The events that a cursor gives, taken one by one into a state: judged, and written. Assumes nothing.
--     left-on         a run of them, taken at once
--     left-more       a step that gives an event
--     left-stopped    one that gives none
--     left_none       no steps are left
--     put_more        a step whose event is written
--     put_on          a run that is written
use Prim.Native.Nat.{ℕ, zero, suc, ◌-◌, ◌≤◌, ◌<◌}
use mathlib.Core.Path.{◌≡◌, refl, sym, ap, ◌∙◌}
use mathlib.Core.Logic.{◌≢◌}
use mathlib.Core.List.{List, [], foldl}
use native.Mathlib.Omega.{arith}
use lib.ListN.{length}
use Rattle.game.specs.declared.Event.{Event}
use Rattle.evf_events.specs.declared.EventCursor.{EventCursor}
use Rattle.evf_events.specs.declared.Step.{Step}
use Rattle.evf_events.specs.declared.Step.TheVariants.{Got as Next}
use Rattle.evf_events.specs.Events.{step_of, first_events}
use Rattle.evf_events.proofs.Firsts.{first_next, first_none, first-zero}
use Rattle.evf_records.specs.declared.Run.{Run}
use Rattle.evf_records.specs.Steps.{ran_after, wrote_after, puts}
use Rattle.evf_records.proofs.Plain.{wrote_long}
use Rattle.passes.specs.PlainV4.{PutsRun}

-- the state z has taken all but the events of n steps from c on; with them it comes to `all`
pub record Left {S : Type 0} (f : S → Event → S) (file : List ℕ) (all z : S) (c : EventCursor)
    (n : ℕ) : Type 0 where
  pub is : foldl f z (first_events n file c) ≡ all

module _ {S : Type 0} {f : S → Event → S} {file : List ℕ} {all z : S} {c : EventCursor} {n : ℕ}
    (w : Left f file all z c n) where
  more : (m : ℕ) (k : EventCursor) (e : Event) → n ≡ m → 0 < m → step_of file c ≡ Next e k
      → foldl f (f z e) (first_events (m - 1) file k) ≡ all
  more zero k e i h q = absurd (omega arith)
  more (suc m) k e i h q =
      let p : suc m - 1 ≡ m = omega arith in
      rw p
      (ap (foldl f z) (sym (first_next file c m q)) ∙ ap (λ (j : ℕ). foldl f z (first_events j file c)) (sym i)
      ∙ w.is)

  pub left-more : {k : EventCursor} {e : Event} → 0 < n → step_of file c ≡ Next e k
      → Left f file all (f z e) k (n - 1)
  left-more {k} {e} h q = record { is = more n k e refl h q }

  pub left-on : {z' : S} {c' : EventCursor} {n' : ℕ}
      → foldl f z' (first_events n' file c') ≡ foldl f z (first_events n file c) → Left f file all z' c' n'
  left-on e = record { is = e ∙ w.is }

  ended : first_events n file c ≡ [] → z ≡ all
  ended q = sym (ap (foldl f z) q) ∙ w.is

  pub left-stopped : (s : Step) → s ≡ step_of file c → ((e : Event) (d : EventCursor) → s ≢ Next e d) → z ≡ all
  left-stopped s q none = ended (first_none file c n s q none)

  pub left_none : n ≤ 0 → z ≡ all
  left_none h = ended (first-zero file c n h)

-- written into a buffer that was d₀, whose length stays
pub record Putting (file : List ℕ) (all : Run × List ℕ) (d₀ d : List ℕ) (r : Run) (c : EventCursor)
    (n : ℕ) : Type 0 where
  pub left : Left puts file all (r, d) c n
  pub long : length d ≡ length d₀

-- a run written
pub put_on : {file : List ℕ} {all : Run × List ℕ} {d₀ d d' : List ℕ} {r r' : Run} {c c' : EventCursor}
    {n n' : ℕ} → Putting file all d₀ d r c n → PutsRun file c r d n c' r' d' n'
    → Putting file all d₀ d' r' c' n'
put_on w p = record { left = left-on w.left p.right; long = p.long ∙ w.long }

pub put_more : {file : List ℕ} {all : Run × List ℕ} {d₀ d d' : List ℕ} {r r' : Run} {c k : EventCursor}
    {e : Event} {n : ℕ} → Putting file all d₀ d r c n → 0 < n → step_of file c ≡ Next e k
    → (r' ≡ ran_after r e) × (d' ≡ wrote_after d r e) → Putting file all d₀ d' r' k (n - 1)
put_more {file} {all} {d = d} {r = r} {k = k} {e = e} {n = n} w h q p =
    record {
      left = rw (p.0, p.1) (left-more w.left h q);
      long = ap length p.1 ∙ wrote_long r d e ∙ w.long;
    }
