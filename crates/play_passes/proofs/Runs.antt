-- Runs of mouse events of version 4, one more. Assumes nothing.
--     next_here    what the test tells
--     steps        a record is a step, to the cursor behind it
--     run_more, cells-more    one more
--     cells-on     a step and a run
use Rattle.std.proofs.Common.{◌≡◌, ℕ, suc, ◌+◌, ◌-◌, ◌<◌, ◌≤◌, Bool, true, false, not, ◌&&◌, eqb, leb, List, length, sym, refl, ◌∙◌, arith, eqb-true, le-leb, leb-true}
use mathlib.Core.Bool.{and-eq-true_iff}
use mathlib.Core.List.{foldl}
use borrow.Author.Tests.{not-true}
use Rattle.times.specs.Times.{seconds_of}
use Rattle.game.specs.declared.Event.{Event}
use Rattle.game.specs.declared.Event.TheVariants.{Mouse}
use Rattle.game.specs.Kinds.{kind_of}
use Rattle.records_v4.specs.declared.mouse.MouseRecord.{MouseRecord}
use Rattle.records_v4.specs.MouseRecords.{is_mouse, MouseHere, MouseAt}
use Rattle.records_v4.proofs.MouseRecords.{mouse_here}
use Rattle.evf_events.specs.declared.EventCursor.{EventCursor}
use Rattle.evf_events.specs.declared.Step.TheVariants.{Got as Next}
use Rattle.evf_events.specs.Events.{event_after, step_of, first_events}
use Rattle.evf_events.proofs.Steps.{step-later}
use Rattle.evf_events.proofs.Turns.{stood}
use Rattle.play_passes.specs.Runs.{is_next, cursor_behind, PassesRun}
use Rattle.play_passes.proofs.Along.{both_is, along-next, along-run, kept}

-- THE TEST
module _ (file : List ℕ) (c : EventCursor) where
  -- what it tells
  pub record NextHere : Type 0 where
    pub four : c.version ≡ 4
    pub begun : c.first ≡ false
    pub early : c.ms.0 ≤ 4294967040
    pub mouse : MouseHere file c.at

  both : (a b : Bool) → (a && b) ≡ true → (a ≡ true) × (b ≡ true)
  both a b = (and-eq-true_iff a b).0

  pub next_here : {b : Bool} → b ≡ is_next file c → b ≡ true → NextHere
  unfolding is_next
  next_here e t =
      let p = both (eqb c.version 4) _ (sym e ∙ t) in
      let q = both (not c.first) _ p.1 in
      let r = both (leb c.ms.0 4294967040) (is_mouse file c.at) q.1 in
      record {
        four = eqb-true c.version 4 p.0;
        begun = not-true c.first q.0;
        early = leb-true c.ms.0 4294967040 r.0;
        mouse = mouse_here refl r.1;
      }

-- A STEP
module _ (file : List ℕ) (c : EventCursor) (h : NextHere file c) (r : MouseRecord)
    (m : MouseAt file c.at r) where
  pub fits : c.ms.0 + r.wait ≤ 4294967295
  fits = omega (arith, h.early, m.wait_fits)

  -- the event that it tells, by the pixel of the cursor behind it
  abbrev pub it : EventCursor → Event
  it to = Mouse (seconds_of (c.ms.0 + r.wait)) (kind_of r.code) to.x to.y

  steps : step_of file c ≡ Next (it (cursor_behind c r)) (cursor_behind c r)
  unfolding event_after
  steps =
      let wait = r.wait in
      let z : c.ms.0 + (0 + wait) ≡ c.ms.0 + wait = omega arith in
      step-later file c h.four h.begun ∙ stood file c c.at 0 m.stands
      ∙ rw (z, le-leb (c.ms.0 + wait) 4294967295 fits, h.begun)

  -- one more
  pub run_more : {A : Type 0} (f : A → Event → A) {c₀ to : EventCursor} {n : ℕ} {a₀ : A} (a : A) {a' : A}
      (k m : ℕ) → suc m ≡ k → to ≡ cursor_behind c r → a' ≡ f a (it to) → PassesRun f file c₀ n a₀ c k a
      → PassesRun f file c₀ n a₀ to m a'
  run_more f a k m l at e w = record {
    right = rw (e, at) (along-next f file a c k m l steps w.right);
    fewer = omega (arith, w.fewer);
  }

-- A FOLD THAT KEEPS THE NUMBER OF LENT CELLS
module _ {A : Type 0} (f : A × List ℕ → Event → A × List ℕ)
    (long : (a : A × List ℕ) (e : Event) → length (f a e).1 ≡ length a.1) where
  -- one more
  pub cells-more : (file : List ℕ) (c : EventCursor) (h : NextHere file c) (r : MouseRecord)
      (m : MouseAt file c.at r) {c₀ to : EventCursor} {n j : ℕ} {a₀ : A × List ℕ} (a : A × List ℕ) {s : A}
      {d : List ℕ} (k : ℕ) → 0 < k → to ≡ cursor_behind c r
      → (s ≡ (f a (it file c h r m to)).0) × (d ≡ (f a (it file c h r m to)).1)
      → PassesRun f file c₀ n a₀ c k a × (length a.1 ≡ j)
      → PassesRun f file c₀ n a₀ to (k - 1) (s, d) × (length d ≡ j)
  cells-more file c h r m {to = to} a k l at e w = (
    run_more file c h r m f a k (k - 1) (omega arith) at (both_is e) w.0,
    kept f long a (it file c h r m to) e.1 w.1,
  )

  -- a step and a run behind it, where the fold comes to `all`
  pub cells-on : (file : List ℕ) (c : EventCursor) (a : A × List ℕ) (n : ℕ) {all : A × List ℕ} {k : ℕ}
      {e : Event} {c₁ to : EventCursor} {s : A} {d : List ℕ} {last : A × List ℕ} {left : ℕ} → 0 < n
      → step_of file c ≡ Next e c₁ → (s ≡ (f a e).0) × (d ≡ (f a e).1)
      → PassesRun f file c₁ (n - 1) (s, d) to left last × (length last.1 ≡ length d)
      → (foldl f a (first_events n file c) ≡ all) × (length a.1 ≡ k)
      → (foldl f last (first_events left file to) ≡ all) × (length last.1 ≡ k)
  cells-on file c a n {e = e} l q x run w = (
    along-run f file a c n l q (both_is x) run.0.right w.0,
    run.1 ∙ kept f long a e x.1 w.1,
  )
