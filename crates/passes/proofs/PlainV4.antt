-- Runs of plain events in a file of version 4: one more, judged and written. Assumes nothing.
--     behind_is     the cursor that the test tells
--     steps         it is a step, at the moment and pixel that it moves to
--     plain         its event is plain
--     same-record   and has the same record when it is written
--     judged_start, judge-more    a run judged: before its first event, and one more
--     put_none, put_more          the same of writing
use Rattle.std.proofs.Common.{◌≡◌, ℕ, suc, ◌+◌, ◌-◌, ◌%◌, ◌<◌, ◌≤◌, Bool, true, false, not, ◌&&◌, eqb, List, length, sym, refl, ap, ◌∙◌, subst, arith, eqb-true, le-leb}
use mathlib.Core.Bool.{and-eq-true_iff}
use lib.Seq.{sets, length-sets}
use borrow.Author.Tests.{not-true}
use Rattle.times.specs.Times.{seconds_of}
use Rattle.times.proofs.Seconds.{round_trip}
use Rattle.game.specs.declared.Event.{Event}
use Rattle.game.specs.declared.Event.TheVariants.{Mouse}
use Rattle.game.specs.declared.MouseKind.{MouseKind}
use Rattle.game.specs.Kinds.{kind_of}
use Rattle.byte_writer.specs.Places.{most}
use Rattle.records_v4.specs.declared.mouse.MouseRecord.{MouseRecord}
use Rattle.records_v4.specs.MouseRecords.{MouseAt}
use Rattle.evf_events.specs.declared.EventCursor.{EventCursor}
use Rattle.evf_events.specs.declared.Step.TheVariants.{Got as Next}
use Rattle.evf_events.specs.Events.{event_after, step_of, first_events}
use Rattle.evf_events.proofs.Firsts.{first_next}
use Rattle.evf_events.proofs.Steps.{step-later}
use Rattle.evf_events.proofs.Turns.{stood}
use Rattle.evf_events.proofs.Version4.{Follows, follows}
use Rattle.mouse_records.specs.declared.Last.{Last}
use Rattle.mouse_records.specs.Records.{record4, difference}
use Rattle.evf_records.specs.declared.Seen.{Seen}
use Rattle.evf_records.specs.declared.Run.{Run}
use Rattle.evf_records.specs.Refusals.{is_ub}
use Rattle.evf_records.specs.Plain.{is_plain}
use Rattle.evf_records.specs.Steps.{seen_begun4, seen_last, seen_by, run_past, run_on4, run_rule, run_place}
use Rattle.evf_records.specs.Steps.{run_last, put_by, wrote_after}
use Rattle.evf_records.proofs.KindTests.{not_ub}
use Rattle.evf_records.proofs.Plain.{seen_start, run_past_lem, ran-plain, wrote-plain}
use Rattle.passes.specs.PlainRuns.{plain_bytes, seen_to}
use Rattle.passes.specs.PlainV4.{cursor_at, is_behind, moved_by}
use Rattle.passes.specs.PlainV4.{JudgesRun, PutsRun}
use Rattle.passes.proofs.PlainRuns.{record_bytes_lem, seen_more}

both : (a b : Bool) → (a && b) ≡ true → (a ≡ true) × (b ≡ true)
both a b = (and-eq-true_iff a b).0

pub behind_is : (c : EventCursor) (last : Last) → is_behind c last ≡ true → cursor_at c.at last ≡ c
unfolding is_behind
behind_is c last e =
    let p = both (eqb c.version 4) _ e in
    let q = both (not c.first) _ p.1 in
    let r = both (eqb c.ms.0 last.ms.0) _ q.1 in
    let s = both (eqb c.x last.x) (eqb c.y last.y) r.1 in
    rw (
      ← eqb-true c.version 4 p.0,
      ← not-true c.first q.0,
      ← eqb-true c.ms.0 last.ms.0 r.0,
      ← eqb-true c.x last.x s.0,
      ← eqb-true c.y last.y s.1,
    )

-- ONE MORE
module _ (file : List ℕ) (at : ℕ) (last : Last) (r : MouseRecord) (m : MouseAt file at r)
    (fits : last.ms.0 + r.wait ≤ 4294967295) where
  abbrev kind : MouseKind
  kind = kind_of r.code

  abbrev next : Last
  next = moved_by last r

  abbrev it : Event
  it = Mouse (seconds_of next.ms.0) kind next.x next.y

  steps : step_of file (cursor_at at last) ≡ Next it (cursor_at (at + 6) next)
  unfolding event_after
  steps =
      let wait = r.wait in
      let z : last.ms.0 + (0 + wait) ≡ last.ms.0 + wait = omega arith in
      step-later file (cursor_at at last) refl refl ∙ stood file (cursor_at at last) at 0 m.stands
      ∙ rw (z, le-leb (last.ms.0 + wait) 4294967295 fits)

  named : is_ub kind ≡ false
  named = not_ub kind
      (subst (Follows last.ms.0) steps (follows file (cursor_at at last) refl refl)).3

  plain : is_plain last.ms.0 kind next.ms.0 ≡ true
  unfolding is_plain
  plain =
      let l = last.ms.0 in
      let wait = r.wait in
      let h = m.wait_fits in
      rw (named, le-leb l (l + wait) (omega arith), le-leb (l + wait - l) 255 (omega arith))

  -- the record is the same in every file
  same-record : last.x < 65536 → last.y < 65536
      → plain_bytes r ≡ record4 last kind next.ms.0 next.x next.y
  same-record x y =
      record_bytes_lem last kind next.ms.0 next.x next.y plain m.coded
      (stayed last.ms.0 r.wait) (went last.x r.dx x m.dx_fits)
      (went last.y r.dy y m.dy_fits)
    where
      stayed : (ms wait : ℕ) → wait ≡ ms + wait - ms
      stayed ms wait = omega arith

      went : (from by : ℕ) → from < 65536 → by < 65536 → by ≡ difference from ((from + by) % 65536)
      went from by h k = omega arith

  small : next.ms.0 < 4294967296
  small = omega arith

  pub judge-more : (c : EventCursor) (seen : Seen) (n : ℕ) → seen_begun4 seen ≡ true → (k k' m m' : ℕ)
      → k ≡ suc k' → m' ≡ m + 6
      → JudgesRun file c seen n (cursor_at at last) (seen_to seen last m) k
      → JudgesRun file c seen n (cursor_at (at + 6) next) (seen_to seen next m') k'
  judge-more c seen n begun k k' m m' e f w =
      let rest = first_events k' file (cursor_at (at + 6) next) in
      let v = rw e at w in
      record {
        right = rw f
            (ap (λ (z : Seen). seen_by z rest)
            (sym (seen_more seen begun m last kind next.ms next.x next.y small plain))
            ∙ ap (seen_by (seen_to seen last m)) (sym (first_next file (cursor_at at last) k' steps))
            ∙ v.right);
        fewer = omega (arith, v.fewer);
      }

  pub put_more : last.x < 65536 → last.y < 65536
      → (c : EventCursor) (run : Run) (out₀ : List ℕ) (n k k' rule to : ℕ) (out out' : List ℕ) → k ≡ suc k'
      → to + 6 ≤ most
      → PutsRun file c run out₀ n (cursor_at at last) (run_past rule to last) out k
      → out' ≡ sets out to (plain_bytes r)
      → PutsRun file c run out₀ n (cursor_at (at + 6) next) (run_past rule (to + 6) next) out' k'
  put_more x y c run out₀ n k k' rule to out out' e room w o =
      let v = rw e at w in
      let rest = first_events k' file (cursor_at (at + 6) next) in
      let back = round_trip rule next.ms.0 small in
      let ms = next.ms in
      let ran = ran-plain rule to last (seconds_of ms.0) kind ms next.x next.y back plain room in
      let wrote = wrote-plain rule to last (seconds_of ms.0) kind ms next.x next.y back plain out in
      let same = ap (sets out to) (same-record x y) in
      record {
        right =
            ap (λ (d : List ℕ). put_by (run_past rule (to + 6) next) d rest) (o ∙ same ∙ sym wrote)
            ∙ ap (λ (r : Run). put_by r (wrote_after out (run_past rule to last) it) rest) (sym ran)
            ∙ ap (put_by (run_past rule to last) out) (sym (first_next file (cursor_at at last) k' steps))
            ∙ v.right;
        fewer = omega (arith, v.fewer);
        long = ap length o ∙ length-sets out to (plain_bytes r) ∙ v.long;
      }

-- BEFORE A RUN
pub judged_start : (file : List ℕ) (at n : ℕ) (seen : Seen) → seen.entries ≤ most → seen.len.bytes ≤ most
    → (last : Last) → last ≡ seen_last seen
    → JudgesRun file (cursor_at at (seen_last seen)) seen n (cursor_at at last) (seen_to seen last 0) n
judged_start file at n seen k h last e =
    record {
      right = ap (λ (l : Last). seen_by (seen_to seen l 0) (first_events n file (cursor_at at l))) e
          ∙ ap (λ (z : Seen). seen_by z (first_events n file (cursor_at at (seen_last seen))))
          (seen_start seen k h);
      fewer = omega arith;
    }

module _ (file : List ℕ) (c : EventCursor) (n : ℕ) where
  pub judged-none : (seen : Seen) → JudgesRun file c seen n c seen n
  judged-none seen = record { right = refl; fewer = omega arith }

  -- what is judged from behind the last mouse event is judged from the cursor
  pub judged-behind : {seen : Seen} {l : Last} {b : Bool} {c' : EventCursor} {seen' : Seen} {n' : ℕ}
      → l ≡ seen_last seen → b ≡ is_behind c l → b ≡ true
      → JudgesRun file (cursor_at c.at (seen_last seen)) seen n c' seen' n'
      → JudgesRun file c seen n c' seen' n'
  judged-behind {seen} {c' = c'} {seen' = seen'} {n' = n'} f g t w =
      let same : is_behind c (seen_last seen) ≡ true = ap (is_behind c) (sym f) ∙ sym g ∙ t in
      subst (λ (d : EventCursor). JudgesRun file d seen n c' seen' n') (behind_is c (seen_last seen) same) w

  pub put_none : (run : Run) (out : List ℕ) → PutsRun file c run out n c run out n
  put_none run out = record { right = refl; fewer = omega arith; long = refl }

  -- what is put from behind the last mouse event is put from the cursor
  pub put-behind : {run : Run} {out : List ℕ} {rule at : ℕ} {last l : Last} {b : Bool} {c' : EventCursor}
      {run' : Run} {out' : List ℕ} {n' : ℕ} → rule ≡ run_rule run → at ≡ run_place run → last ≡ run_last run
      → l ≡ run_last run
      → b ≡ is_behind c l → b ≡ true → run_on4 run ≡ true
      → PutsRun file (cursor_at c.at last) (run_past rule at last) out n c' run' out' n'
      → PutsRun file c run out n c' run' out' n'
  put-behind {run} {out} {rule} {at} {last} {c' = c'} {run' = run'} {out' = out'} {n' = n'} u d e f g t on w =
      let same : is_behind c (run_last run) ≡ true = ap (is_behind c) (sym f) ∙ sym g ∙ t in
      let past : run_past rule at last ≡ run =
      ap (λ (k : ℕ). run_past k at last) u ∙ ap (λ (k : ℕ). run_past (run_rule run) k last) d
      ∙ ap (run_past (run_rule run) (run_place run)) e ∙ run_past_lem run on in
      subst (λ (r : Run). PutsRun file c r out n c' run' out' n') past
      (subst (λ (k : EventCursor). PutsRun file k (run_past rule at last) out n c' run' out' n')
      (ap (cursor_at c.at) e ∙ behind_is c (run_last run) same) w)
