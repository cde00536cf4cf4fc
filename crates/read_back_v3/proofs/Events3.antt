-- AN EVENT BLOCK WRITTEN BY VERSION 3 READS BACK (01, Events, "Version 3 writer"). Assumes nothing of `toMs`,
-- by which seconds become milliseconds.
--     kind_back      each kind is read from its code
--     events_back    where the bytes of a row that version 3 takes stand, and a code that ends them, the
--                    events that the row is saved as are read
use Prim.Native.Nat.{ℕ, ◌+◌, ◌^◌, ◌≤◌, ◌<◌}
use mathlib.Core.Path.{◌≡◌, refl, ◌∙◌}
use mathlib.Core.Bool.{Bool, true, false}
use mathlib.Core.List.{List, [], ◌∷◌, ◌++◌}
use native.Mathlib.Omega.{arith}
use lib.Dec.{lit<, ltb}
use lib.Ieee.{Float}
use lib.ListN.{length, length-append}
use borrow.Author.Tests.{ltb-false, ne_eqb}
use Rattle.game.specs.declared.MouseKind.{MouseKind}
use Rattle.game.specs.declared.MouseKind.TheVariants.{Mv, Lc, Lr, Rc, Rr, Mc, Mr, Pf, Cc, L, R, M, Ub}
use Rattle.game.specs.declared.Event.{Event}
use Rattle.game.specs.declared.Event.TheVariants.{Mouse}
use Rattle.game.specs.Kinds.{kind_of, code_of}
use Rattle.game.specs.Limits.{largest_u24}
use Rattle.byte_reader.proofs.Laws.{Stands, front, behind, Takes, pure-takes}
use Rattle.record_fields.specs.Fields.{ends, mouse as says, mouse_body}
use Rattle.records_v0_v3.specs.Records.{kind_in, old_body, old_record}
use Rattle.evf_events.specs.declared.EventCursor.{EventCursor}
use Rattle.evf_events.specs.declared.Step.TheVariants.{End}
use Rattle.evf_events.specs.Events.{mouse_at, step_of, read, events_from}
use Rattle.evf_events.proofs.Steps.{step-old}
use Rattle.evf_events.proofs.Runs.{turn}
use Rattle.mouse_records.specs.declared.Last.{Last}
use Rattle.mouse_records.specs.Records.{record3, last_after, row_bytes}
use Rattle.evf_records.specs.Refusals.{too_late}
use Rattle.read_back.specs.Saved.{saved_events, Places, none, mouse, state}
use Rattle.read_back.proofs.Fields.{taken, coded, three}
use Rattle.read_back.proofs.Events.{neither}
use Rattle.read_back_v3.specs.Back3.{KindBack, end_code}

-- CODES
pub kind_back : KindBack
unfolding kind_in kind_of
kind_back Mv = refl
kind_back Lc = refl
kind_back Lr = refl
kind_back Rc = refl
kind_back Rr = refl
kind_back Mc = refl
kind_back Mr = refl
kind_back Pf = refl
kind_back Cc = refl
kind_back L = refl
kind_back R = refl
kind_back M = refl
kind_back Ub = refl

-- no kind has a code that ends the events
between : (k : MouseKind) → (1 ≤ code_of k) × (code_of k ≤ 99)
between Mv = (omega arith, omega arith)
between Lc = (omega arith, omega arith)
between Lr = (omega arith, omega arith)
between Rc = (omega arith, omega arith)
between Rr = (omega arith, omega arith)
between Mc = (omega arith, omega arith)
between Mr = (omega arith, omega arith)
between Pf = (omega arith, omega arith)
between Cc = (omega arith, omega arith)
between L = (omega arith, omega arith)
between R = (omega arith, omega arith)
between M = (omega arith, omega arith)
between Ub = (omega arith, omega arith)

module _ (s : List ℕ) where
  -- RECORDS
  mouse-takes : (kind : MouseKind) (ms x y : ℕ) → ms < 2 ^ 24 → x < 65536 → y < 65536
      → Takes s (old_record 3) (record3 kind ms x y) (λ v. v ≡ says kind ms x y)
  unfolding old_record record3 mouse_body
  mouse-takes kind ms x y hm hx hy =
      let code = code_of kind in
      let b = between kind in
      coded s (old_body 3) code (omega (arith, b.1))
      (rw (
        ne_eqb code 0 (λ z. omega (arith, b.0, z)),
        ne_eqb code 255 (λ z. omega (arith, b.1, z)),
        kind_back kind,
      )
      (three s (says kind) 3 ms x y hm hx hy))

  end-takes : (follows : Bool) → Takes s (old_record 3) (end_code follows ∷ []) (λ v. v ≡ ends follows)
  unfolding old_record
  end-takes true = coded s (old_body 3) 0 (lit< tt) (pure-takes s (ends true) refl)
  end-takes false = coded s (old_body 3) 255 (lit< tt) (pure-takes s (ends false) refl)

  -- STEPS: a cursor of version 3 reads the record at its place, whatever it read before
  module _ (c : EventCursor) (v : c.version ≡ 3) {r : List ℕ} where
    next : (kind : MouseKind) (ms x y : ℕ) → ms < 2 ^ 24 → x < 65536 → y < 65536
        → Stands s c.at (record3 kind ms x y) r
        → step_of s c ≡ mouse_at 3 (c.at + length (record3 kind ms x y)) kind ms x y
    next kind ms x y hm hx hy h =
        step-old s c (omega (arith, v)) ∙ rw (v, taken s c.at (mouse-takes kind ms x y hm hx hy) h)

    stopped : (follows : Bool) → Stands s c.at [] (end_code follows ∷ r)
        → step_of s c ≡ End (c.at + 1) follows
    stopped follows h =
        step-old s c (omega (arith, v))
        ∙ rw (v, taken s c.at (end-takes follows) (record { start = h.start; here = h.here }))

  -- ALL EVENTS
  module _ (toMs : Float → ℕ) where
    pub events_back : {row : List Event} → Places row → (c : EventCursor) → c.version ≡ 3 → (last : Last)
        (follows : Bool) {r : List ℕ} → too_late toMs row ≡ false
        → Stands s c.at (row_bytes toMs 3 last row) (end_code follows ∷ r)
        → events_from s c ≡ read (saved_events toMs row) (c.at + length (row_bytes toMs 3 last row) + 1) follows
    events_back none c v last follows f h =
        let to : c.at + 0 + 1 ≡ c.at + 1 = omega arith in
        turn s c ∙ rw (stopped c v follows h, to)
    events_back (state p) c v last follows f h = events_back p c v last follows f h
    events_back (mouse {seconds = t} {kind = kind} {x = x} {y = y} {es = es} hx hy p) c v last follows {r} f
        h =
        let ms = toMs t in
        let now = last_after toMs last (Mouse t kind x y) in
        let d = record3 kind ms x y in
        let e = row_bytes toMs 3 now es in
        let a = neither (ltb largest_u24 ms) (too_late toMs es) f in
        let on : EventCursor =
        record { version = 3; at = c.at + length d; first = false; ms = record { 0 = ms }; x = x; y = y } in
        let one = next c v kind ms x y (omega (arith, ltb-false largest_u24 ms a.0)) hx hy
        (front s c.at d e (end_code follows ∷ r) h) in
        let rest = events_back p on refl now follows a.1 (behind s c.at d e (end_code follows ∷ r) h) in
        let to : c.at + length d + length e + 1 ≡ c.at + length (d ++ e) + 1 =
        omega (arith, length-append d e) in
        turn s c ∙ rw (one, rest, to)
