-- The lines of events, one by one: what a step writes. Assumes nothing.
--     wrote_none           before the first step
--     wrote-more           a step and its line
--     wrote-all            where no steps are left, or the next one gives no event
use Prim.Native.Nat.{ℕ, suc, ◌≤◌}
use mathlib.Core.Path.{◌≡◌, refl, ap, sym, ◌∙◌}
use mathlib.Core.List.{List, [], ◌++◌, append_assoc, append-nil}
use lib.ListN.{length}
use Rattle.game.specs.declared.Event.{Event}
use Rattle.byte_writer.specs.Places.{most, Writes}
use Rattle.byte_writer.proofs.Laws.{writes_none, writes_then, writes_as}
use Rattle.evf_events.specs.declared.EventCursor.{EventCursor}
use Rattle.evf_events.specs.declared.Step.TheVariants.{Got as Next}
use Rattle.evf_events.specs.Events.{step_of, first_events}
use Rattle.evf_events.proofs.Firsts.{first_next}
use Rattle.event_lines.specs.Lines.{event_line}
use Rattle.listed.specs.Listed.{event_lines}

-- Of the lines `all`, some went into d₀ from a place on, which left d; the rest are those of n steps from c
-- on.
pub record Wrote (all d₀ d : List ℕ) (from at : ℕ) (file : List ℕ) (c : EventCursor) (n : ℕ) : Type 0 where
  pub done : List ℕ
  pub writes : Writes d₀ d from done at
  pub left : done ++ event_lines (first_events n file c) ≡ all

module _ {d₀ : List ℕ} {from : ℕ} (file : List ℕ) where
  pub wrote_none : (c : EventCursor) (n : ℕ) → from ≤ most
      → Wrote (event_lines (first_events n file c)) d₀ d₀ from from file c n
  wrote_none c n l = record { done = []; writes = writes_none d₀ from l; left = refl }

  module _ {all d : List ℕ} {at : ℕ} (c : EventCursor) where
    pub wrote-more : (m n : ℕ) {e : Event} {k : EventCursor} {d' : List ℕ} {to : ℕ} → length d₀ ≤ most
        → m ≡ suc n → step_of file c ≡ Next e k → Wrote all d₀ d from at file c m
        → Writes d d' at (event_line e) to → Wrote all d₀ d' from to file k n
    wrote-more m n {e} {k} l h q w v =
        let u = rw h at w in
        record {
          done = u.done ++ event_line e;
          writes = writes_then l u.writes (λ l. v);
          left =
              append_assoc u.done (event_line e) (event_lines (first_events n file k))
              ∙ ap (λ (es : List Event). u.done ++ event_lines es) (sym (first_next file c n q)) ∙ u.left;
        }

    pub wrote-all : (n : ℕ) → first_events n file c ≡ [] → Wrote all d₀ d from at file c n
        → Writes d₀ d from all at
    wrote-all n q w =
        writes_as
        (sym (append-nil w.done) ∙ ap (λ (es : List Event). w.done ++ event_lines es) (sym q) ∙ w.left)
        w.writes
