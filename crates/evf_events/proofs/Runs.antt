-- All events: one step is taken, and reading goes on from the cursor behind it. Nothing above sees the number
-- of turns. Assumes nothing.
--     forward     where a step's cursor stands, and of which version it is
--     turn        events_from takes one step and goes on
use Rattle.std.proofs.Common.{◌≡◌, ℕ, zero, suc, ◌+◌, ◌-◌, ◌<◌, ◌≤◌, Bool, true, false, ltb, List, length, refl, ap, subst, arith, ltb-false, ltb-true}
use Rattle.game.specs.declared.Event.{Event}
use Rattle.game.specs.Refusals.{version_unknown}
use Rattle.byte_reader.specs.Reading.{Got}
use Rattle.evf_events.specs.declared.EventCursor.{EventCursor}
use Rattle.evf_events.specs.declared.Step.{Step}
use Rattle.evf_events.specs.declared.Step.TheVariants.{Got as Next, End, Refused}
use Rattle.record_fields.specs.Fields.{Whole}
use Rattle.evf_events.specs.Events.{whole, later_from, step_of, Events, with_first, step_then, run}
use Rattle.evf_events.specs.Events.{events_from}
use Rattle.records_v0_v3.proofs.Records.{SeenOld, cut, stop, mouse, seen-old}
use Rattle.records_v4.proofs.Seen.{SeenFirst, cut as first-cut, unknown, mouse as first-mouse, seen_first}
use Rattle.evf_events.proofs.Turns.{by_test, Holds, holds}

-- what holds of every answer of a step, by its cases
module _ (P : Step → Type 0) (file : List ℕ) (c : EventCursor) where
  pub of-step : P (Refused version_unknown)
      → (c.version < 4 → (g : Got Whole) → SeenOld file c.at g → P (whole c.version g))
      → (c.version ≡ 4 → c.first ≡ true → (g : Got Whole) → SeenFirst file c.at g
      → P (whole c.version g))
      → (c.version ≡ 4 → c.first ≡ false → P (later_from file c c.at 0))
      → P (step_of file c)
  unfolding step_of
  of-step bad old first later =
      by_test P (ltb 4 c.version) (λ t. bad)
      (λ t. by_test P (ltb c.version 4) (λ u. old (ltb-true _ _ u) _ (seen-old c.version file c.at))
      (λ u. let v : c.version ≡ 4 = omega (arith, ltb-false 4 c.version t, ltb-false c.version 4 u) in
      by_test P c.first (λ f. first v f _ (seen_first file c.at)) (λ f. later v f)))

-- the cursor behind an event: two bytes or more further on, within the file, of the same version
pub record Forward (file : List ℕ) (c d : EventCursor) : Type 0 where
  pub further : c.at + 2 ≤ d.at
  pub inside : d.at ≤ length file
  pub version : d.version ≡ c.version
  pub first : d.first ≡ false

abbrev pub Ahead : List ℕ → EventCursor → Step → Type 0
Ahead file c (Next e d) = Forward file c d
Ahead file c (End at checksum) = (c.at < at) × (at ≤ length file)
Ahead file c (Refused n) = Unit {0}

module _ (file : List ℕ) (c : EventCursor) where
  ahead-old : (g : Got Whole) → SeenOld file c.at g → Ahead file c (whole c.version g)
  ahead-old g cut = tt
  ahead-old g (stop i b) = (omega arith, i)
  ahead-old g (mouse i kind x y) = record { further = omega arith; inside = i; version = refl; first = refl }

  ahead-first : (g : Got Whole) → SeenFirst file c.at g → Ahead file c (whole c.version g)
  ahead-first g first-cut = tt
  ahead-first g unknown = tt
  ahead-first g (first-mouse i code x y e) =
      record { further = omega arith; inside = i; version = refl; first = refl }

  ahead-later : Holds (Ahead file c) file c c.at
  ahead-later =
      record {
        ends = tt;
        unnamed = tt;
        late = tt;
        stopped = λ at f i. (f, i);
        moved = λ at ms code dx dy f i m n a b.
            record { further = omega arith; inside = i; version = refl; first = refl };
        became = λ at ms s f i m n. record { further = f; inside = i; version = refl; first = refl };
      }

  pub ahead : Ahead file c (step_of file c)
  ahead = of-step (Ahead file c) file c tt (λ v g s. ahead-old g s) (λ v f g s. ahead-first g s)
      (λ v f. holds (Ahead file c) file c c.at ahead-later)

  pub forward : {e : Event} {d : EventCursor} → step_of file c ≡ Next e d → Forward file c d
  forward q = subst (Ahead file c) q ahead

  pub ended : {at : ℕ} {checksum : Bool} → step_of file c ≡ End at checksum → (c.at < at) × (at ≤ length file)
  ended q = subst (Ahead file c) q ahead

-- turns enough
after_same : (file : List ℕ) (c : EventCursor) (a : Step) (f g : EventCursor → Events) → Ahead file c a
    → ((d : EventCursor) → Forward file c d → f d ≡ g d) → step_then a f ≡ step_then a g
after_same file c (Next e d) f g h q = ap (with_first e) (q d h)
after_same file c (End at b) f g h q = refl
after_same file c (Refused n) f g h q = refl

enough : (file : List ℕ) (f g : ℕ) (c : EventCursor) → length file - c.at < f → length file - c.at < g
    → run f file c ≡ run g file c
unfolding run
enough file zero g c hf hg = absurd (omega arith)
enough file (suc f) zero c hf hg = absurd (omega arith)
enough file (suc f) (suc g) c hf hg =
    after_same file c (step_of file c) (run f file) (run g file) (ahead file c)
    (λ d h. enough file f g d (omega (arith, h.further, h.inside)) (omega (arith, h.further, h.inside)))

module _ (file : List ℕ) (c : EventCursor) where
  pub turn : events_from file c ≡ step_then (step_of file c) (events_from file)
  unfolding run events_from
  turn =
      after_same file c (step_of file c) (run (length file - c.at) file) (events_from file) (ahead file c)
      (λ d h. enough file (length file - c.at) (suc (length file - d.at)) d
      (omega (arith, h.further, h.inside)) (omega arith))
