-- A fold over so many events from a cursor on, a step at a time. Assumes nothing.
--     along-next, along-run    a step that gives an event, and a run behind it
--     along-else, along-none    the fold is over
--     kept    lent cells that a step keeps the number of
use Rattle.std.proofs.Common.{◌≡◌, ℕ, suc, ◌-◌, ◌<◌, ◌≤◌, List, [], length, refl, sym, ap, ◌∙◌, arith}
use mathlib.Core.List.{foldl}
use Rattle.game.specs.declared.Event.{Event}
use Rattle.evf_events.specs.declared.EventCursor.{EventCursor}
use Rattle.evf_events.specs.declared.Step.{Step}
use Rattle.evf_events.specs.declared.Step.TheVariants.{Got as Next, End, Refused}
use Rattle.evf_events.specs.Events.{step_of, first_events}
use Rattle.evf_events.proofs.Firsts.{first_next, first-end, first_refused, first-zero}

pub both_is : {A B : Type 0} {a a' : A} {b b' : B} → (a ≡ a') × (b ≡ b') → ◌≡◌ {A = A × B} (a, b) (a', b')
both_is {A} {B} {a' = a'} {b = b} e = ap (λ (x : A). (x, b)) e.0 ∙ ap (λ (y : B). (a', y)) e.1

-- `all` is what the fold comes to; it stands at `a`, with n steps left from c on
module _ {A : Type 0} (f : A → Event → A) (file : List ℕ) {all : A} where
  module _ (a : A) (c : EventCursor) where
    pub along-next : (n m : ℕ) {e : Event} {d : EventCursor} → suc m ≡ n → step_of file c ≡ Next e d
        → foldl f a (first_events n file c) ≡ all → foldl f (f a e) (first_events m file d) ≡ all
    along-next n m p q w =
        sym (ap (foldl f a) (first_next file c m q)) ∙ ap (λ (k : ℕ). foldl f a (first_events k file c)) p ∙ w

    -- and events behind it that were taken at once
    pub along-run : (n : ℕ) {e : Event} {d : EventCursor} {b last : A} → 0 < n → step_of file c ≡ Next e d
        → b ≡ f a e → last ≡ foldl f b (first_events (n - 1) file d) → foldl f a (first_events n file c) ≡ all
        → last ≡ all
    along-run n {d = d} l q e r w =
        r ∙ ap (λ (x : A). foldl f x (first_events (n - 1) file d)) e ∙ along-next n (n - 1) (omega arith) q w

    over : (n : ℕ) → first_events n file c ≡ [] → foldl f a (first_events n file c) ≡ all → a ≡ all
    over n q w = sym (ap (foldl f a) q) ∙ w

    pub along-else : (n : ℕ) (s : Step) → step_of file c ≡ s
        → ((e : Event) (d : EventCursor) → s ≡ Next e d → ⊥)
        → foldl f a (first_events n file c) ≡ all → a ≡ all
    along-else n (Next e d) q other w = absurd (other e d refl)
    along-else n (End at k) q other w = over n (first-end file c n q) w
    along-else n (Refused k) q other w = over n (first_refused file c n q) w

    pub along-none : (n : ℕ) → n ≤ 0 → foldl f a (first_events n file c) ≡ all → a ≡ all
    along-none n l w = over n (first-zero file c n l) w

-- a step that keeps the number of lent cells
module _ {A : Type 0} (f : A × List ℕ → Event → A × List ℕ)
    (long : (a : A × List ℕ) (e : Event) → length (f a e).1 ≡ length a.1) where
  pub kept : (a : A × List ℕ) (e : Event) {d : List ℕ} {k : ℕ} → d ≡ (f a e).1 → length a.1 ≡ k
      → length d ≡ k
  kept a e x w = ap length x ∙ long a e ∙ w
