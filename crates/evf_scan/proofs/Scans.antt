-- Counting events: what is right where a scan stands, from what is right behind the next record. Assumes
-- nothing.
use Prim.Native.Nat.{ℕ, suc, ◌+◌, ◌%◌, ◌≤◌, ◌<◌}
use mathlib.Core.Path.{◌≡◌, refl, sym, ap, subst, ◌∙◌}
use mathlib.Core.Bool.{Bool, true, false}
use mathlib.Core.List.{List, []}
use native.Mathlib.Omega.{arith}
use lib.ListN.{length}
use lib.Dec.{leb}
use borrow.Author.Tests.{leb-true, leb-false}
use Rattle.times.specs.Times.{seconds_of}
use Rattle.game.specs.declared.Event.{Event}
use Rattle.game.specs.declared.Event.TheVariants.{Mouse, State}
use Rattle.game.specs.declared.MouseKind.{MouseKind}
use Rattle.game.specs.Refusals.{ms_too_large}
use Rattle.byte_reader.specs.Reading.{Got, ok, no}
use Rattle.evf_events.specs.declared.EventCursor.{EventCursor}
use Rattle.evf_scan.specs.declared.Scan.{Scan}
use Rattle.evf_scan.specs.declared.Scan.TheVariants.{All, Refused as Broken}
use Rattle.evf_events.specs.declared.Step.{Step}
use Rattle.evf_events.specs.declared.Step.TheVariants.{Got as Next, End, Refused}
use Rattle.record_fields.specs.Fields.{Whole, ends, mouse}
use Rattle.records_v0_v3.specs.Records.{old_record}
use Rattle.records_v4.specs.Records.{Change, moves, becomes, stops, skips, pauses, event, later_record}
use Rattle.evf_events.specs.Events.{whole, changed, event_after, later_from, step_of, step_then, Events, read}
use Rattle.evf_events.specs.Events.{refused, with_first, events_from}
use Rattle.evf_scan.specs.Scanning.{scanned}
use Rattle.records_v4.specs.Tells.{Stands}
use Rattle.evf_scan.specs.Counts.{CountsOld, CountsLater}
use Rattle.evf_events.proofs.Turns.{by_test, turned, stood, pause-late, pause-on}
use Rattle.evf_events.proofs.Runs.{turn}
use Rattle.evf_events.proofs.Steps.{step-old, step-later}

-- COUNTING, where k events were counted before
pub count_next : (k : ℕ) (e : Event) (a : Events) → scanned k (with_first e a) ≡ scanned (k + 1) a
count_next k e (read es at b) = let l : k + suc (length es) ≡ k + 1 + length es = omega arith in rw l
count_next k e (refused n) = refl

pub count_end : (k at : ℕ) (checksum : Bool) → scanned k (read [] at checksum) ≡ All k at checksum
count_end k at b = let z : k + 0 ≡ k = omega arith in rw z

-- what a step answers, counted
module _ (file : List ℕ) (c : EventCursor) (k : ℕ) where
  stepped : {a : Step} → step_of file c ≡ a
      → scanned k (events_from file c) ≡ scanned k (step_then a (events_from file))
  stepped q = ap (scanned k) (turn file c) ∙ rw q

  pub scan-got : {e : Event} {d : EventCursor} → step_of file c ≡ Next e d
      → scanned k (events_from file c) ≡ scanned (k + 1) (events_from file d)
  scan-got {e} {d} q = stepped q ∙ count_next k e (events_from file d)

  pub scan-end : {at : ℕ} {checksum : Bool} → step_of file c ≡ End at checksum
      → scanned k (events_from file c) ≡ All k at checksum
  scan-end {at} {checksum} q = stepped q ∙ count_end k at checksum

  pub scan-refused : {n : ℕ} → step_of file c ≡ Refused n → scanned k (events_from file c) ≡ Broken n
  scan-refused q = stepped q

-- VERSIONS 0 TO 3, where every version reads g at a place
module _ (file : List ℕ) (at k : ℕ) where
  old-step : (g : ℕ → Got Whole) → ((version : ℕ) → old_record version file at ≡ g version)
      → (c : EventCursor) → c.version < 4 → c.at ≡ at
      → scanned k (events_from file c)
      ≡ scanned k (step_then (whole c.version (g c.version)) (events_from file))
  old-step g e c v p = ap (scanned k) (turn file c) ∙ rw (step-old file c v, p, e c.version)

  pub old-ended : (to : ℕ) (checksum : Bool)
      → ((version : ℕ) → old_record version file at ≡ ok (ends checksum) to)
      → CountsOld file at k (All k to checksum)
  old-ended to b e =
      record { right = λ c v p. sym (old-step (λ _. ok (ends b) to) e c v p ∙ count_end k to b) }

  pub old-refused : (n : ℕ) → ((version : ℕ) → old_record version file at ≡ no n)
      → CountsOld file at k (Broken n)
  old-refused n e = record { right = λ c v p. sym (old-step (λ _. no n) e c v p) }

  pub old-on : {kind : ℕ → MouseKind} {ms x y to : ℕ}
      → ((version : ℕ) → old_record version file at ≡ ok (mouse (kind version) ms x y) to)
      → (r : Scan) → CountsOld file to (k + 1) r → CountsOld file at k r
  old-on {kind} {ms} {x} {y} {to} e r h =
      record {
        right = λ c v p.
            let d : EventCursor =
            record { version = c.version; at = to; first = false; ms = record { 0 = ms }; x = x; y = y }
            in
            h.right d v refl
            ∙ sym (old-step (λ version. ok (mouse (kind version) ms x y) to) e c v p
            ∙ count_next k _ (events_from file d));
      }

-- VERSION 4 AFTER THE FIRST RECORD
module _ (file : List ℕ) (at ms p k : ℕ) (r : Scan) where
  -- a record that is no event
  passed : (n q : ℕ) → ((c : EventCursor) → later_from file c at p ≡ later_from file c n q)
      → CountsLater file n ms q k r → CountsLater file at ms p k r
  passed n q e h = record { right = λ l c v f t. h.right l c v f t ∙ rw (e c); late = h.late }

  pub skip-on : Stands file at skips 1 → CountsLater file (at + 1) ms p k r → CountsLater file at ms p k r
  skip-on s h = passed (at + 1) p (λ c. stood file c at p s) h

  pub pause-passed : (n : ℕ) {m : ℕ} → Stands file at (pauses m) 3 → n ≡ m → p + n ≤ 4294967295
      → CountsLater file (at + 3) ms (p + n) k r → CountsLater file at ms p k r
  pause-passed n s e l h = passed (at + 3) (p + n) (λ c. pause-on file c at p n s e l) h

module _ (file : List ℕ) (at ms p k : ℕ) (m : ms ≤ 4294967295) where
  -- where the answer is the same from every cursor
  answered : (r : Scan)
      → ((c : EventCursor) → scanned k (step_then (later_from file c at p) (events_from file)) ≡ r)
      → CountsLater file at ms p k r
  answered r e = record { right = λ l c v f t. sym (e c); late = λ l. absurd (omega arith) }

  pub later-refused : (n : ℕ) → later_record file at ≡ no n → CountsLater file at ms p k (Broken n)
  later-refused n e = answered (Broken n) (λ c. rw (turned file c at p e))

  pub pause-refused : (n : ℕ) {w : ℕ} → Stands file at (pauses w) 3 → n ≡ w → 4294967295 < p + n
      → CountsLater file at ms p k (Broken ms_too_large)
  pause-refused n s e l = answered (Broken ms_too_large) (λ c. rw (pause-late file c at p n s e l))

  pub later-ended : Stands file at stops 1 → CountsLater file at ms p k (All k (at + 1) true)
  later-ended s = answered (All k (at + 1) true) (λ c. rw (stood file c at p s) (count_end k (at + 1) true))

pub too_late_lem : (file : List ℕ) (at ms p k : ℕ) → 4294967295 < ms
    → CountsLater file at ms p k (Broken ms_too_large)
too_late_lem file at ms p k h = record { right = λ l. absurd (omega arith); late = λ l. refl }

-- a cursor behind the first record
module _ (file : List ℕ) (k : ℕ) (r : Scan) where
  pub from-cursor : (c : EventCursor) → c.version ≡ 4 → c.first ≡ false → c.ms.0 ≤ 4294967295
      → CountsLater file c.at c.ms.0 0 k r → r ≡ scanned k (events_from file c)
  from-cursor c v f l h =
      h.right l c v f refl ∙ rw (← (step-later file c v f)) (sym (ap (scanned k) (turn file c)))

  pub renamed : (at p : ℕ) {n m : ℕ} → n ≡ m → CountsLater file at n p k r → CountsLater file at m p k r
  renamed at p {n} {m} e h = subst (λ (t : ℕ). CountsLater file at t p k r) e h

-- an event, where the code has the wait w
module _ (file : List ℕ) (at k : ℕ) (r : Scan) where
  next : (e : Event) (d : EventCursor) → d.version ≡ 4 → d.first ≡ false → d.ms.0 ≤ 4294967295
      → CountsLater file d.at d.ms.0 0 (k + 1) r
      → r ≡ scanned k (step_then (Next e d) (events_from file))
  next e d v f l h = from-cursor file (k + 1) r d v f l h ∙ sym (count_next k e (events_from file d))

  behind : (c : EventCursor) (ms : ℕ) (change : Change) → c.version ≡ 4 → ms ≤ 4294967295
      → CountsLater file at ms 0 (k + 1) r
      → r ≡ scanned k (step_then (changed c at ms change) (events_from file))
  behind c ms (moves kind dx dy) v l h =
      let x = (c.x + dx) % 65536 in
      let y = (c.y + dy) % 65536 in
      next (Mouse (seconds_of ms) kind x y)
      (record { version = c.version; at = at; first = false; ms = record { 0 = ms }; x = x; y = y }) v
      refl l h
  behind c ms (becomes state) v l h =
      next (State (seconds_of ms) state)
      (record {
        version = c.version;
        at = at;
        first = false;
        ms = record { 0 = ms };
        x = c.x;
        y = c.y;
      }) v refl l h

module _ (file : List ℕ) (at ms p k : ℕ) (r : Scan) where
  pub event-on : {n wait : ℕ} {change : Change} (w : ℕ) → Stands file at (event wait change) n → w ≡ wait
      → ms ≤ 4294967295
      → CountsLater file (at + n) (ms + (p + w)) 0 (k + 1) r → CountsLater file at ms p k r
  unfolding event_after
  event-on {n} {wait} {change} w s e m h =
      record {
        right = λ l c v f u.
            let t = ms + (p + w) in
            let q : c.ms.0 + (p + wait) ≡ t = omega arith in
            rw (stood file c at p s)
            (by_test (λ (a : Step). r ≡ scanned k (step_then a (events_from file)))
            (leb (c.ms.0 + (p + wait)) 4294967295)
            (λ b. rw q
            (behind file (at + n) k r c t change v
            (omega (arith, leb-true (c.ms.0 + (p + wait)) 4294967295 b)) h))
            (λ b. h.late (omega (arith, leb-false (c.ms.0 + (p + wait)) 4294967295 b))));
        late = λ l. absurd (omega arith);
      }
