-- The row holds what the cursor gives singly. Assumes nothing.
use Prim.Native.Nat.{ℕ, ◌≤◌}
use mathlib.Core.Path.{◌≡◌, refl, sym, ap, subst, ◌∙◌}
use mathlib.Core.Bool.{Bool, true, false}
use mathlib.Core.List.{List, [], ◌∷◌}
use native.Mathlib.Omega.{arith}
use lib.ListN.{length}
use lib.Seq.{sets}
use Rattle.game.specs.declared.Event.{Event}
use Rattle.rows.specs.Rows.{TurnsGive}
use Rattle.rows.proofs.Turns.{gave-row}
use Rattle.evf_events.specs.declared.EventCursor.{EventCursor}
use Rattle.evf_events.specs.declared.Step.{Step}
use Rattle.evf_events.specs.declared.Step.TheVariants.{Got as Next, End, Refused as Broken}
use Rattle.evf_events.specs.Events.{Events, read, refused, with_first, step_then, step_of, events_from}
use Rattle.evf_events.proofs.Runs.{turn}
use Rattle.evf_video.specs.declared.RowFill.{RowFill}
use Rattle.evf_video.specs.declared.Took.{Took}
use Rattle.text.specs.declared.Place.{Place}
use Rattle.game.specs.declared.Header.{Header}
use Rattle.byte_reader.specs.Reading.{Got, ok, no}
use Rattle.evf_header.specs.Opening.{Opened, opening}
use Rattle.evf_events.specs.Start.{first_cursor}
use Rattle.evf_video.specs.Reading.{Reading, game, none, checksum, behind_events, behind_header}
use Rattle.evf_video.specs.Reading.{from_start, reading_of}
use Rattle.evf_video.specs.Parsed.{into_buffers, parse_of, row_then}
use Rattle.evf_video.specs.Judging.{cursor_from, start_of}
use Rattle.evf_video.specs.Turns.{stopped, taken, took_of, row_by, run_for}
use Rattle.evf_video.proofs.Buffers.{fitted}

-- events that were read to their end
pub record Read (E : Events) (es : List Event) : Type 0 where
  pub at : ℕ
  pub checksum : Bool
  pub is : E ≡ read es at checksum

abbrev GivesFrom : List ℕ → RowFill → List Event → Type 0
GivesFrom = TurnsGive (λ (k : Took). k.more) (λ (k : Took). k.event) (λ (k : Took). k.run) took_of

abbrev going : EventCursor → RowFill
going c = record { done = false; cursor = c }

module _ (file : List ℕ) where
  -- a turn is the cursor's step
  took-step : (c : EventCursor) (s : Step) → step_of file c ≡ s → took_of file (going c) ≡ taken (going c) s
  unfolding took_of
  took-step c s e = ap (taken (going c)) e

  pub took-done : (r : RowFill) → r.done ≡ true → stopped r ≡ took_of file r
  unfolding took_of
  took-done r e = rw e

  -- the first event of some, and those behind it
  pub first-of : (e : Event) (es : List Event) (at : ℕ) (k : Bool) (E : Events) → with_first e E ≡ read es at k
      → (f : Event) (fs : List Event) → es ≡ f ∷ fs → (e ≡ f) × (E ≡ read fs at k)
  first-of e es at k (read ds to l) q f fs p = (cc, cc)
  first-of e es at k (refused n) q f fs p = let z : ◌≡◌ {A = ℕ} 0 1 = cc in absurd (omega arith)

  pub none_of : (e : Event) (at : ℕ) (k : Bool) (E : Events) → with_first e E ≡ read [] at k → ⊥
  none_of e at k (read ds to l) q = let z : ◌≡◌ {A = ℕ} 0 1 = cc in omega arith
  none_of e at k (refused n) q = let z : ◌≡◌ {A = ℕ} 0 1 = cc in omega arith

  -- by the step that the cursor takes
  module _ (at : ℕ) (k : Bool) where
    ended : (c : EventCursor) (s : Step) → step_of file c ≡ s → step_then s (events_from file) ≡ read [] at k
        → GivesFrom file (going c) []
    ended c (Next e d) q r = absurd (none_of e at k (events_from file d) r)
    ended c (End to l) q r = ap (λ (t : Took). t.more) (took-step c (End to l) q)
    ended c (Broken n) q r = let z : ◌≡◌ {A = ℕ} 0 1 = cc in absurd (omega arith)

    went_on : (e : Event) (es : List Event)
        → ((d : EventCursor) → events_from file d ≡ read es at k → GivesFrom file (going d) es)
        → (c : EventCursor) (s : Step) → step_of file c ≡ s → step_then s (events_from file) ≡ read (e ∷ es) at k
        → GivesFrom file (going c) (e ∷ es)
    went_on e es rest c (Next f d) q r =
        let w = first-of f (e ∷ es) at k (events_from file d) r e es refl in
        let t = took-step c (Next f d) q in (
          ap (λ (j : Took). j.more) t,
          (
            ap (λ (j : Took). j.event) t ∙ w.0,
            subst (λ (j : Took). GivesFrom file j.run es) (sym t)
                (rest d w.1),
          ),
        )
    went_on e es rest c (End to l) q r = let z : ◌≡◌ {A = ℕ} 0 1 = cc in absurd (omega arith)
    went_on e es rest c (Broken n) q r = let z : ◌≡◌ {A = ℕ} 0 1 = cc in absurd (omega arith)

    -- what a cursor's events are, the turns give
    gives : (es : List Event) (c : EventCursor) → events_from file c ≡ read es at k
        → GivesFrom file (going c) es
    gives [] c q = ended c (step_of file c) refl (sym (turn file c) ∙ q)
    gives (e ∷ es) c q = went_on e es (gives es) c (step_of file c) refl (sym (turn file c) ∙ q)

  -- a row that is long enough then holds them, and behind them what stood there
  pub row-filled : (c : EventCursor) (es row : List Event) (at : ℕ) (k : Bool)
      → events_from file c ≡ read es at k → length es ≤ length row → row_by file (going c) row ≡ sets row 0 es
  row-filled c es row at k q l =
      gave-row (λ (t : Took). t.more) (λ (t : Took). t.event) (λ (t : Took). t.run) took_of file
      (going c) es row (gives at k es c q) l

  -- a done one leaves the row
  pub row-left : (r : RowFill) (row : List Event) → r.done ≡ true → row_by file r row ≡ row
  row-left r row e = gave-row (λ (t : Took). t.more) (λ (t : Took). t.event)
      (λ (t : Took). t.run) took_of file r [] row (sym (ap (λ (t : Took). t.more) (took-done r e)))
      (omega arith)

-- THE ROW AT EXIT
module _ (file : List ℕ) where
  of-sum : (o : Opened) (ds : List Event) (g : Got Place) (h : Header) (b : Place) (es : List Event)
      → behind_events o ds g ≡ game h b es → ds ≡ es
  of-sum o ds (ok p to) h b es q = cc
  of-sum o ds (no n) h b es q = let z : ◌≡◌ {A = ℕ} 0 1 = cc in absurd (omega arith)

  of-events : (o : Opened) (E : Events) (h : Header) (b : Place) (es : List Event)
      → behind_header file o E ≡ game h b es → Read E es
  of-events o (read ds at k) h b es q =
      record {
        at = at;
        checksum = k;
        is = ap (λ (l : List Event). read l at k)
            (of-sum o ds (checksum o.header.version k file at) h b es q);
      }
  of-events o (refused n) h b es q = let z : ◌≡◌ {A = ℕ} 0 1 = cc in absurd (omega arith)

  of-start : (g : Got Opened) (h : Header) (b : Place) (es : List Event) → from_start file g ≡ game h b es
      → Read (events_from file (cursor_from g)) es
  of-start (ok o at) h b es q = of-events o (events_from file (first_cursor o.header.version at)) h b es q
  of-start (no n) h b es q = let z : ◌≡◌ {A = ℕ} 0 1 = cc in absurd (omega arith)

  -- the events of a game are those of the cursor at its first record
  pub read-singly : (h : Header) (b : Place) (es : List Event) → reading_of file ≡ game h b es
      → Read (events_from file (start_of file)) es
  unfolding reading_of start_of
  read-singly h b es q = of-start (opening file 0) h b es q

  row-by : (cells : ℕ) (row : List Event) (R : Reading) → into_buffers (reading_of file) cells (length row) ≡ R
      → row_by file (run_for file R) row ≡ row_then R row
  row-by cells row (game h b es) q =
      let f = fitted cells (length row) h b es (reading_of file) q in
      let w = read-singly h b es f.is in
      row-filled file (start_of file) es row w.at w.checksum w.is f.row_fits
  row-by cells row (none n) q = row-left file (record { done = true; cursor = first_cursor 0 0 }) row refl

  -- a refused reading leaves the row, and any other puts its events at its start
  pub row-at-exit : (cells : ℕ) (row : List Event)
      → row_by file (run_for file (parse_of file cells (length row))) row
      ≡ row_then (parse_of file cells (length row)) row
  unfolding parse_of
  row-at-exit cells row = row-by cells row (into_buffers (reading_of file) cells (length row)) refl
