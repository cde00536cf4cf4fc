-- THE ROW AND THE CURSOR. A game's events are what the cursor that `open` gives yields one by one, in that
-- order, up to the end; `parse` puts just these at the start of the row (`Parses`, by `row_then`). In version
-- 4 they are what a version 4 file can hold.
--     opens       a file that reads as a game opens, at its first record
--     singly      the cursor yields the game's events and then the end
--     all-events  so many steps as a game has events give all of them
--     version-4   the first event of version 4 is mv, lc, rc or pf below 256 ms, none is ub, and milliseconds
--                 never fall
-- Assumes nothing but that the file is bytes, in the last.
use Prim.Native.Nat.{ℕ}
use mathlib.Core.Path.{◌≡◌, refl, sym, ap, ◌∙◌}
use mathlib.Core.Bool.{Bool}
use mathlib.Core.List.{List, [], ◌∷◌}
use native.Mathlib.Omega.{arith}
use lib.ListN.{length}
use Rattle.text.specs.declared.Place.{Place}
use Rattle.game.specs.declared.Header.{Header}
use Rattle.game.specs.declared.Event.{Event}
use Rattle.byte_reader.specs.Reading.{Bytes, Got, ok, no}
use Rattle.evf_header.specs.Opening.{Opened, opening}
use Rattle.evf_events.specs.declared.EventCursor.{EventCursor}
use Rattle.evf_events.specs.declared.Step.{Step}
use Rattle.evf_events.specs.declared.Step.TheVariants.{Got as Next, End, Refused as Broken}
use Rattle.evf_events.specs.declared.Start.TheVariants.{At}
use Rattle.evf_events.specs.Events.{Events, read, refused, step_then, step_of, events_from, first_events}
use Rattle.evf_events.specs.Start.{first_cursor, open_of}
use Rattle.evf_events.proofs.Firsts.{first_next}
use Rattle.evf_events.proofs.Runs.{turn}
use Rattle.evf_events.proofs.Version4 as Four
use Rattle.evf_video.specs.Reading.{game, with_checksum, checksum, behind_events, behind_header, from_start}
use Rattle.evf_video.specs.Reading.{reading_of}
use Rattle.evf_video.specs.Judging.{start_of}
use Rattle.evf_video.proofs.Filled.{read-singly, first-of, none_of}

-- steps from the cursor c give the events es, one by one, and then the end
pub data Singly (file : List ℕ) : EventCursor → List Event → Type 0 where
  over : {c : EventCursor} {at : ℕ} {checksum : Bool} → step_of file c ≡ End at checksum → Singly file c []
  next : {c d : EventCursor} {e : Event} {es : List Event} → step_of file c ≡ Next e d → Singly file d es
      → Singly file c (e ∷ es)

pub all-events : {file : List ℕ} {c : EventCursor} {es : List Event} → Singly file c es
    → first_events (length es) file c ≡ es
unfolding first_events
all-events (over q) = refl
all-events {file} {c} (next {e = e} {es = es} q s) =
    first_next file c (length es) q ∙ ap (λ (ds : List Event). e ∷ ds) (all-events s)

module _ (file : List ℕ) (at : ℕ) (k : Bool) where
  ends : (c : EventCursor) (s : Step) → step_of file c ≡ s → step_then s (events_from file) ≡ read [] at k
      → Singly file c []
  ends c (Next e d) q r = absurd (none_of file e at k (events_from file d) r)
  ends c (End to l) q r = over q
  ends c (Broken n) q r = let z : ◌≡◌ {A = ℕ} 0 1 = cc in absurd (omega arith)

  goes : (e : Event) (es : List Event)
      → ((d : EventCursor) → events_from file d ≡ read es at k → Singly file d es)
      → (c : EventCursor) (s : Step) → step_of file c ≡ s → step_then s (events_from file) ≡ read (e ∷ es) at k
      → Singly file c (e ∷ es)
  goes e es rest c (Next f d) q r =
      let w = first-of file f (e ∷ es) at k (events_from file d) r e es refl in
      next (q ∙ ap (λ (x : Event). Next x d) w.0) (rest d w.1)
  goes e es rest c (End to l) q r = let z : ◌≡◌ {A = ℕ} 0 1 = cc in absurd (omega arith)
  goes e es rest c (Broken n) q r = let z : ◌≡◌ {A = ℕ} 0 1 = cc in absurd (omega arith)

  pub yields : (es : List Event) (c : EventCursor) → events_from file c ≡ read es at k → Singly file c es
  yields [] c q = ends c (step_of file c) refl (sym (turn file c) ∙ q)
  yields (e ∷ es) c q = goes e es (yields es) c (step_of file c) refl (sym (turn file c) ∙ q)

module _ (file : List ℕ) (h : Header) (board : Place) (es : List Event)
    (g : reading_of file ≡ game h board es) where
  pub singly : Singly file (start_of file) es
  singly = let w = read-singly file h board es g in
      yields file w.at w.checksum es (start_of file) w.is

  opens_by : (o : Got Opened) → from_start file o ≡ game h board es → opening file 0 ≡ o
      → open_of file ≡ At (start_of file)
  unfolding open_of start_of
  opens_by (ok o at) q e = rw e
  opens_by (no n) q e = let z : ◌≡◌ {A = ℕ} 0 1 = cc in absurd (omega arith)

  pub opens : open_of file ≡ At (start_of file)
  unfolding reading_of
  opens = opens_by (opening file 0) g refl

  -- the version of the game is the cursor's
  of-sum : (o : Opened) (ds : List Event) (p : Got Place) → behind_events o ds p ≡ game h board es
      → o.header.version ≡ h.version
  of-sum o ds (ok p to) q = let f : with_checksum o.header p ≡ h = cc in ap (λ (x : Header). x.version) f
  of-sum o ds (no n) q = let z : ◌≡◌ {A = ℕ} 0 1 = cc in absurd (omega arith)

  of-events : (o : Opened) (E : Events) → behind_header file o E ≡ game h board es
      → o.header.version ≡ h.version
  of-events o (read ds at k) q = of-sum o ds (checksum o.header.version k file at) q
  of-events o (refused n) q = let z : ◌≡◌ {A = ℕ} 0 1 = cc in absurd (omega arith)

  record Begins : Type 0 where
    at : ℕ
    is : start_of file ≡ first_cursor h.version at

  begins-by : (o : Got Opened) → from_start file o ≡ game h board es → opening file 0 ≡ o → Begins
  unfolding start_of
  begins-by (ok o at) q e =
      record {
        at = at;
        is = rw e
            (ap (λ (v : ℕ). first_cursor v at)
            (of-events o (events_from file (first_cursor o.header.version at)) q));
      }
  begins-by (no n) q e = let z : ◌≡◌ {A = ℕ} 0 1 = cc in absurd (omega arith)

  pub version-4 : Bytes file → h.version ≡ 4 → Four.Version4 es
  unfolding reading_of
  version-4 bytes v =
      let b = begins-by (opening file 0) g refl in
      let w = read-singly file h board es g in
      Four.all-events file bytes (first_cursor h.version b.at) v refl
      (ap (events_from file) (sym b.is) ∙ w.is)
