-- Which record a step reads, and what a record comes to at each of the code's returns. Assumes nothing.
use Rattle.std.proofs.Common.{◌≡◌, ℕ, ◌+◌, ◌%◌, ◌<◌, ◌≤◌, true, false, List, ap, ◌∙◌, arith, le-ltb, lt-ltb, le-leb}
use Rattle.game.specs.declared.MouseKind.{MouseKind}
use Rattle.game.specs.Refusals.{version_unknown}
use Rattle.evf_events.specs.declared.EventCursor.{EventCursor}
use Rattle.evf_events.specs.declared.Step.{Step}
use Rattle.evf_events.specs.declared.Step.TheVariants.{Refused}
use Rattle.records_v0_v3.specs.Records.{old_record}
use Rattle.records_v4.specs.Records.{first_record, Change, moves}
use Rattle.evf_events.specs.Events.{mouse_at, whole, where_ms_fit, changed, event_after, later_from, step_of}

-- WHICH RECORD A STEP READS
module _ (file : List ℕ) (c : EventCursor) where
  pub step-unknown : 4 < c.version → step_of file c ≡ Refused version_unknown
  unfolding step_of
  step-unknown h = rw (lt-ltb 4 c.version h)

  pub step-old : c.version < 4 → step_of file c ≡ whole c.version (old_record c.version file c.at)
  unfolding step_of
  step-old h = let l : c.version ≤ 4 = omega arith in rw (le-ltb 4 c.version l, lt-ltb c.version 4 h)

  module _ (v : c.version ≡ 4) where
    pub step-first : c.first ≡ true → step_of file c ≡ whole c.version (first_record file c.at)
    unfolding step_of
    step-first f = let l : c.version ≤ 4 = omega arith in let m : 4 ≤ c.version = omega arith in
        rw (le-ltb 4 c.version l, le-ltb c.version 4 m, f)

    pub step-later : c.first ≡ false → step_of file c ≡ later_from file c c.at 0
    unfolding step_of
    step-later f = let l : c.version ≤ 4 = omega arith in let m : 4 ≤ c.version = omega arith in
        rw (le-ltb 4 c.version l, le-ltb c.version 4 m, f)

-- a mouse event of version 4 after the first at ms that a u32 has
module _ (c : EventCursor) (at ms : ℕ) (h : ms ≤ 4294967295) where
  pub moved : (kind : MouseKind) (dx dy : ℕ) {x y : ℕ} {r : Step} → x ≡ (c.x + dx) % 65536
      → y ≡ (c.y + dy) % 65536
      → r ≡ mouse_at c.version at kind ms x y → r ≡ where_ms_fit ms (changed c at ms (moves kind dx dy))
  moved kind dx dy ex ey er = er ∙ rw (ex, ey, le-leb ms 4294967295 h)

-- the same where the code has the sum of the last event's ms, the pauses since and the wait
pub waited : (c : EventCursor) (at pending wait : ℕ) (change : Change) {last ms : ℕ} {r : Step}
    → last ≡ c.ms.0 → ms ≡ last + (pending + wait)
    → r ≡ where_ms_fit ms (changed c at ms change) → r ≡ event_after c at pending wait change
unfolding event_after
waited c at pending wait change {last} {ms} clock sum e =
    let is : ms ≡ c.ms.0 + (pending + wait) = omega arith in
    e ∙ ap (λ (n : ℕ). where_ms_fit n (changed c at n change)) is
