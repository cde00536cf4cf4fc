-- AN EVENT BLOCK WRITTEN BY VERSION 4 READS BACK (01, "Version 4 writer and upgrade"). Assumes nothing of
-- `toMs`, by which seconds become milliseconds, but that it gives a u32.
--     events_back    where the bytes of a row that version 4 can hold stand, and the 0 that ends them, the
--                    events that the row is saved as are read
--     saved_same     a row of mouse events at whole milliseconds is saved as itself
--     events_back_ms, saved_same_ms   both with `s_to_ms`, by any rule
use Prim.Native.Nat.{ℕ, ◌+◌, ◌-◌, ◌%◌, ◌^◌, ◌≤◌, ◌<◌}
use mathlib.Core.Path.{◌≡◌, refl, sym, ap, ◌∙◌}
use mathlib.Core.Bool.{Bool, true, false, ◌&&◌, ◌||◌, and-eq-true_iff, true≢false}
use mathlib.Core.List.{List, [], ◌∷◌, ◌++◌}
use native.Mathlib.Omega.{arith}
use lib.Dec.{ltb}
use lib.Ieee.{Float}
use lib.ListN.{length, length-append}
use borrow.Author.Tests.{ltb-true, ltb-false, not-false}
use Rattle.times.specs.Times.{seconds_of, s_to_ms}
use Rattle.times.proofs.Seconds.{ms_small, round_trip}
use Rattle.game.specs.declared.MouseKind.{MouseKind}
use Rattle.game.specs.declared.Event.{Event}
use Rattle.game.specs.declared.Event.TheVariants.{Mouse}
use Rattle.game.specs.Kinds.{code_of}
use Rattle.byte_reader.proofs.Laws.{Stands, front, behind}
use Rattle.evf_events.specs.declared.EventCursor.{EventCursor}
use Rattle.evf_events.specs.declared.Step.TheVariants.{End}
use Rattle.evf_events.specs.Events.{mouse_at, step_of, read, events_from}
use Rattle.evf_events.specs.Start.{first_cursor}
use Rattle.records_v4.specs.Records.{moves}
use Rattle.evf_events.proofs.Steps.{step-first, step-later, moved, waited}
use Rattle.evf_events.proofs.Turns.{turned}
use Rattle.evf_events.proofs.Runs.{turn}
use Rattle.mouse_records.specs.declared.Last.{Last}
use Rattle.mouse_records.specs.Pauses.{pauses_of, rest_of}
use Rattle.mouse_records.specs.Records.{record_bytes, difference, record4, nothing_yet, last_after, row_bytes}
use Rattle.game.specs.Kinds.{begins}
use Rattle.evf_records.specs.Refusals.{is_ub, no_start, falls_after}
use Rattle.read_back.specs.Saved.{saved_events, Places, none, mouse, state, Timed, no_events, at_ms}
use Rattle.read_back.proofs.Fields.{taken, first-takes, move-takes, stop-takes}
use Rattle.read_back.proofs.Pauses.{no_pauses, passed}

-- ONE EVENT

-- the way from one position to another leads there
arrives : (from to : ℕ) → from < 65536 → to < 65536 → to ≡ (from + difference from to) % 65536
arrives from to h k = omega arith

-- The first record is told from nothing, at 0 ms and 0, 0: its wait is its milliseconds, too short for a
-- pause, and its way is its position.
first-bytes : (kind : MouseKind) (ms x y : ℕ) → ms < 256 → x < 65536 → y < 65536
    → record4 nothing_yet kind ms x y ≡ record_bytes (code_of kind) 1 ms x y
unfolding record4
first-bytes kind ms x y l hx hy =
    let wait : ms - 0 ≡ ms = omega arith in
    let n = no_pauses ms (omega arith) in
    let dx : difference 0 x ≡ x = omega arith in
    let dy : difference 0 y ≡ y = omega arith in
    rw (wait, n.0, n.1, dx, dy)

-- the cursor behind a mouse event
abbrev standing : (at : ℕ) → Last → EventCursor
standing at last =
    record { version = 4; at = at; first = false; ms = record { 0 = last.ms.0 }; x = last.x; y = last.y }

module _ (s : List ℕ) (at : ℕ) {r : List ℕ} where
  module _ (kind : MouseKind) (ms x y : ℕ) (u : is_ub kind ≡ false) (hx : x < 65536) (hy : y < 65536) where
    -- behind another
    next : (last : Last) → last.ms.0 ≤ ms → ms < 2 ^ 32 → last.x < 65536 → last.y < 65536
        → Stands s at (record4 last kind ms x y) r
        → step_of s (standing at last) ≡ mouse_at 4 (at + length (record4 last kind ms x y)) kind ms x y
    unfolding record4
    next last up small lx ly h =
        let c = standing at last in
        let wait = ms - last.ms.0 in
        let left = rest_of wait in
        let dx = difference last.x x in
        let dy = difference last.y y in
        let e = pauses_of wait in
        let f = record_bytes (code_of kind) 1 left dx dy in
        let p = passed s c wait at (omega arith) (front s at e f r h) in
        let to : at + length e + length f ≡ at + length (e ++ f) = omega (arith, length-append e f) in
        let sum : ms ≡ last.ms.0 + (0 + (wait - left) + left) = omega (arith, p.less) in
        let m = taken s (at + length e)
        (move-takes s kind u {n = left} {x = dx} {y = dy} (omega (arith, p.small)) (omega arith)
        (omega arith)) (behind s at e f r h) in
        step-later s c refl refl ∙ p.same ∙ turned s c (at + length e) (0 + (wait - left)) m
        ∙ sym (waited c (at + length e + length f) (0 + (wait - left)) left
        (moves kind dx dy) {last = last.ms.0} {ms = ms} refl sum
        (moved c (at + length e + length f) ms (omega arith) kind dx dy (arrives last.x x lx hx)
        (arrives last.y y ly hy) refl))
        ∙ ap (λ n. mouse_at 4 n kind ms x y) to

    -- the first
    first : begins kind ≡ true → ms < 256 → Stands s at (record4 nothing_yet kind ms x y) r
        → step_of s (first_cursor 4 at) ≡ mouse_at 4 (at + length (record4 nothing_yet kind ms x y)) kind ms x y
    first b l h =
        let e = first-bytes kind ms x y l hx hy in
        rw e (step-first s (first_cursor 4 at) refl refl
        ∙ rw (taken s at (first-takes s kind u l hx hy b) (rw e at h)))

  stopped : (last : Last) → Stands s at [] (0 ∷ r) → step_of s (standing at last) ≡ End (at + 1) true
  stopped last h =
      let c = standing at last in
      step-later s c refl refl
      ∙ turned s c at 0 (taken s at (stop-takes s) (record { start = h.start; here = h.here }))

-- ALL EVENTS

pub neither : (a b : Bool) → (a || b) ≡ false → (a ≡ false) × (b ≡ false)
neither true b e = absurd (true≢false e)
neither false b e = (refl, e)

module _ (s : List ℕ) (c : EventCursor) (at : ℕ) (kind : MouseKind) (ms x y : ℕ) (e f : List ℕ)
    (es : List Event) where
  -- an event of the bytes e, and the events behind it of the bytes f
  joined : step_of s c ≡ mouse_at 4 (at + length e) kind ms x y
      → events_from s (standing (at + length e) (record { ms = record { 0 = ms }; x = x; y = y }))
      ≡ read es (at + length e + length f + 1) true
      → events_from s c ≡ read (Mouse (seconds_of ms) kind x y ∷ es) (at + length (e ++ f) + 1) true
  joined one rest =
      let to : at + length e + length f + 1 ≡ at + length (e ++ f) + 1 = omega (arith, length-append e f) in
      turn s c ∙ rw (one, rest, to)

module _ (toMs : Float → ℕ) (small : (seconds : Float) → toMs seconds < 2 ^ 32) (s : List ℕ) where
  -- behind a mouse event
  later-back : {row : List Event} → Places row → (at : ℕ) (last : Last) {r : List ℕ} → last.x < 65536
      → last.y < 65536
      → falls_after toMs last.ms.0 row ≡ false → Stands s at (row_bytes toMs 4 last row) (0 ∷ r)
      → events_from s (standing at last) ≡ read (saved_events toMs row)
      (at + length (row_bytes toMs 4 last row) + 1) true
  later-back none at last lx ly f h =
      let to : at + 0 + 1 ≡ at + 1 = omega arith in
      turn s (standing at last) ∙ rw (stopped s at last h, to)
  later-back (state p) at last lx ly f h = later-back p at last lx ly f h
  later-back (mouse {seconds = t} {kind = kind} {x = x} {y = y} {es = es} hx hy p) at last {r} lx ly f h =
      let ms = toMs t in
      let now = last_after toMs last (Mouse t kind x y) in
      let d = record4 last kind ms x y in
      let a = neither (is_ub kind || ltb ms last.ms.0) (falls_after toMs ms es) f in
      let b = neither (is_ub kind) (ltb ms last.ms.0) a.0 in
      joined s (standing at last) at kind ms x y d (row_bytes toMs 4 now es) (saved_events toMs es)
      (next s at kind ms x y b.0 hx hy last (ltb-false ms last.ms.0 b.1) (small t) lx ly
      (front s at d (row_bytes toMs 4 now es) (0 ∷ r) h))
      (later-back p (at + length d) now hx hy a.1 (behind s at d (row_bytes toMs 4 now es) (0 ∷ r) h))

  pub events_back : (row : List Event) → Places row → no_start toMs row ≡ false → falls_after toMs 0 row ≡ false
      → (at : ℕ) (r : List ℕ) → Stands s at (row_bytes toMs 4 nothing_yet row) (0 ∷ r)
      → events_from s (first_cursor 4 at) ≡ read (saved_events toMs row)
      (at + length (row_bytes toMs 4 nothing_yet row) + 1) true
  events_back row none n f at r h = absurd (true≢false n)
  events_back row (state p) n f at r h = absurd (true≢false n)
  events_back row (mouse {seconds = t} {kind = kind} {x = x} {y = y} {es = es} hx hy p) n f at r h =
      let ms = toMs t in
      let now = last_after toMs nothing_yet (Mouse t kind x y) in
      let d = record4 nothing_yet kind ms x y in
      let a = neither (is_ub kind || ltb ms 0) (falls_after toMs ms es) f in
      let b = neither (is_ub kind) (ltb ms 0) a.0 in
      let g = (and-eq-true_iff (begins kind) (ltb ms 256)).0 (not-false (begins kind && ltb ms 256) n) in
      joined s (first_cursor 4 at) at kind ms x y d (row_bytes toMs 4 now es) (saved_events toMs es)
      (first s at kind ms x y b.0 hx hy g.0 (ltb-true ms 256 g.1)
      (front s at d (row_bytes toMs 4 now es) (0 ∷ r) h))
      (later-back p (at + length d) now hx hy a.1 (behind s at d (row_bytes toMs 4 now es) (0 ∷ r) h))

-- as seconds become milliseconds in a file
pub events_back_ms : (rule : ℕ) (s : List ℕ) (row : List Event) → Places row
    → no_start (s_to_ms rule) row ≡ false → falls_after (s_to_ms rule) 0 row ≡ false
    → (at : ℕ) (r : List ℕ) → Stands s at (row_bytes (s_to_ms rule) 4 nothing_yet row) (0 ∷ r)
    → events_from s (first_cursor 4 at) ≡ read (saved_events (s_to_ms rule) row)
    (at + length (row_bytes (s_to_ms rule) 4 nothing_yet row) + 1) true
events_back_ms rule = events_back (s_to_ms rule) (ms_small rule)

-- SAVED AS ITSELF
pub saved_same : (toMs : Float → ℕ) → ((ms : ℕ) → ms < 2 ^ 32 → toMs (seconds_of ms) ≡ ms) → (row : List Event)
    → Timed row → saved_events toMs row ≡ row
saved_same toMs back row no_events = refl
saved_same toMs back row (at_ms {ms = ms} {es = es} e h t) = rw (e, back ms h, saved_same toMs back es t)

pub saved_same_ms : (rule : ℕ) (row : List Event) → Timed row → saved_events (s_to_ms rule) row ≡ row
saved_same_ms rule = saved_same (s_to_ms rule) (round_trip rule)
