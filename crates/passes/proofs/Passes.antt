-- The two passes over a file's events: what is right where one stands, from what is right behind the next
-- event. Assumes nothing.
--     old-same                                       where reading stands says all of a cursor in versions 0
--                                                    to 3
--     next-event, ended, broken                      the events from a place on, by the record there
--     looking, looked-on, looked, looked-broken      judging them: before the first, behind one more, at the end,
--     at a refusal
--     putting, put_on, put_ended, put-broken         writing them, the same
--     put_stopped                                    where no mouse event stands
use Rattle.std.proofs.Common.{◌≡◌, ℕ, ◌+◌, ◌<◌, ◌≤◌, Bool, false, List, [], ◌∷◌, length, sym, refl, ap, ◌∙◌, arith}
use mathlib.Core.Logic.{◌≢◌}
use Rattle.times.specs.Times.{seconds_of}
use Rattle.times.specs.declared.GameMs.{GameMs}
use Rattle.times.proofs.Seconds.{round_trip}
use Rattle.game.specs.declared.Event.{Event}
use Rattle.game.specs.declared.Event.TheVariants.{Mouse}
use Rattle.game.specs.declared.MouseKind.{MouseKind}
use Rattle.byte_reader.specs.Reading.{Got, no}
use Rattle.evf_events.specs.declared.EventCursor.{EventCursor}
use Rattle.evf_events.specs.declared.Step.{Step}
use Rattle.record_fields.specs.Fields.{Whole, ends, mouse}
use Rattle.records_v0_v3.specs.Records.{old_record}
use Rattle.records_v0_v3.specs.Tells.{StandsOld, TellsOld}
use Rattle.records_v0_v3.specs.declared.OldRecord.{OldRecord}
use Rattle.records_v0_v3.specs.declared.OldRecord.TheVariants.{Mouse as Moved, End, Refused as Broken}
use Rattle.evf_events.specs.Events.{Events, read, refused, with_first, step_then, whole, events_from}
use Rattle.evf_events.specs.Start.{first_cursor}
use Rattle.evf_events.proofs.Steps.{step-old}
use Rattle.evf_events.proofs.Runs.{turn}
use Rattle.evf_records.specs.declared.Seen.{Seen}
use Rattle.evf_records.specs.declared.Run.{Run}
use Rattle.evf_records.specs.Steps.{unseen, seen_after, ran_after, wrote_after, put_by, JudgesMove, PutsMove}
use Rattle.evf_records.proofs.Plain.{wrote_long}
use Rattle.passes.specs.declared.Survey.TheVariants.{All, Refused}
use Rattle.passes.specs.EventPasses.{old_events, survey_by, Surveys, PutsEvents}
use Rattle.passes.specs.PlainRuns.{LooksOn, PutsOn}

-- milliseconds that a u32 has, told by the largest and by the first that it has not
pub u32_has : {ms : ℕ} → ms ≤ 4294967295 → ms < 4294967296
u32_has h = omega arith

-- THE EVENTS FROM A PLACE ON
module _ (file : List ℕ) where
  old-turn : (c : EventCursor) → c.version < 4
      → events_from file c ≡ step_then (whole c.version (old_record c.version file c.at))
      (events_from file)
  old-turn c v = turn file c ∙ ap (λ (s : Step). step_then s (events_from file)) (step-old file c v)

  pub old-same : (c : EventCursor) → c.version < 4 → events_from file c ≡ old_events c.version file c.at
  old-same c v = old-turn c v ∙ sym (old-turn (first_cursor c.version c.at) v)

  module _ (version at : ℕ) (v : version < 4) where
    by-record : {g : Got Whole} → old_record version file at ≡ g
        → old_events version file at ≡ step_then (whole version g) (events_from file)
    by-record e = old-turn (first_cursor version at) v
        ∙ ap (λ (g : Got Whole). step_then (whole version g) (events_from file)) e

    pub next-event : {kind : MouseKind} {ms x y : ℕ} → StandsOld version file at (mouse kind ms x y) 8
        → old_events version file at ≡ with_first (Mouse (seconds_of ms) kind x y)
        (old_events version file (at + 8))
    next-event {kind} {ms} {x} {y} s =
        by-record s.is
        ∙ ap (with_first (Mouse (seconds_of ms) kind x y))
        (old-same
        (record { version = version; at = at + 8; first = false; ms = record { 0 = ms }; x = x; y = y })
        v)

    pub ended : {checksum : Bool} → StandsOld version file at (ends checksum) 1
        → old_events version file at ≡ read [] (at + 1) checksum
    ended s = by-record s.is

    pub broken : {n : ℕ} → old_record version file at ≡ no n → old_events version file at ≡ refused n
    broken e = by-record e

-- JUDGED
pub record Looking (file : List ℕ) (version from rule at : ℕ) (seen : Seen) : Type 0 where
  pub same : version < 4
      → survey_by seen (old_events version file at) ≡ survey_by (unseen 4 rule) (old_events version file from)

pub looking : (file : List ℕ) (version from rule : ℕ) (seen : Seen) → seen ≡ unseen 4 rule
    → Looking file version from rule from seen
looking file version from rule seen e = record { same = λ v. rw e }

pub survey_next : (seen : Seen) (e : Event) (E : Events)
    → survey_by seen (with_first e E) ≡ survey_by (seen_after seen e) E
survey_next seen e (read es at b) = refl
survey_next seen e (refused n) = refl

module _ {file : List ℕ} {version from rule at : ℕ} {seen : Seen}
    (w : Looking file version from rule at seen) where
  pub looked-on : {kind : MouseKind} {ms x y : ℕ} → StandsOld version file at (mouse kind ms x y) 8
      → ms < 4294967296 → (seen' : Seen) → JudgesMove seen kind ms x y seen'
      → (to : ℕ) (seen'' : Seen) → LooksOn file version (at + 8) seen' to seen''
      → Looking file version from rule to seen''
  looked-on {kind} {ms} {x} {y} s m seen' j to seen'' l =
      let e = Mouse (seconds_of ms) kind x y in
      record {
        same = λ v.
            l.right v ∙ ap (λ (k : Seen). survey_by k (old_events version file (at + 8)))
            (j.right (seconds_of ms) (round_trip seen.rule ms m))
            ∙ sym (survey_next seen e (old_events version file (at + 8)))
            ∙ sym (ap (survey_by seen) (next-event file version at v s)) ∙ w.same v;
      }

  pub looked : {b : Bool} → StandsOld version file at (ends b) 1
      → Surveys file version from rule (All seen (at + 1) b)
  looked s = record { right = λ v. sym (ap (survey_by seen) (ended file version at v s)) ∙ w.same v }

  pub looked-broken : {n : ℕ} → old_record version file at ≡ no n → Surveys file version from rule (Refused n)
  looked-broken q =
      record { right = λ v. sym (ap (survey_by seen) (broken file version at v q)) ∙ w.same v }

-- WRITTEN
pub record Putting (file : List ℕ) (version from : ℕ) (run : Run) (out₀ : List ℕ) (at : ℕ) (r : Run)
    (out : List ℕ) : Type 0 where
  pub right : (last : List ℕ) → PutsEvents file version at r out last
      → PutsEvents file version from run out₀ last
  pub long : length out ≡ length out₀

pub putting : (file : List ℕ) (version from : ℕ) (run : Run) (out : List ℕ)
    → Putting file version from run out from run out
putting file version from run out = record { right = λ last p. p; long = refl }

-- an event more: what is right behind it is right before it
pub put_next : (file : List ℕ) (version at : ℕ) {kind : MouseKind} {ms x y : ℕ}
    → StandsOld version file at (mouse kind ms x y) 8 → (r : Run) (out last : List ℕ)
    → PutsEvents file version (at + 8) (ran_after r (Mouse (seconds_of ms) kind x y))
    (wrote_after out r (Mouse (seconds_of ms) kind x y)) last → PutsEvents file version at r out last
put_next file version at {kind} {ms} {x} {y} s r out last p =
    record {
      right = λ v es to b q. by-rest (Mouse (seconds_of ms) kind x y) (old_events version file (at + 8))
          (λ fs z. p.right v fs to b z) es (sym (next-event file version at v s) ∙ q);
    }
  where
    by-rest : (e : Event) (E : Events) {to : ℕ} {b : Bool}
        → ((fs : List Event) → E ≡ read fs to b
        → last ≡ (put_by (ran_after r e) (wrote_after out r e) fs).1)
        → (es : List Event) → with_first e E ≡ read es to b → last ≡ (put_by r out es).1
    by-rest e (read fs at' k) {to} {b} go es q =
        let l : e ∷ fs ≡ es = cc in
        let m : read fs at' k ≡ read fs to b = cc in
        go fs m ∙ ap (λ (l : List Event). (put_by r out l).1) l
    by-rest e (refused n) go es q = let z : ◌≡◌ {A = ℕ} 0 1 = cc in absurd (omega arith)

module _ {file : List ℕ} {version from at : ℕ} {run r : Run} {out₀ out : List ℕ}
    (w : Putting file version from run out₀ at r out) where
  pub put_on : {kind : MouseKind} {ms x y : ℕ} → StandsOld version file at (mouse kind ms x y) 8
      → ms < 4294967296 → (r' : Run) (out' : List ℕ) → PutsMove r kind ms x y out out' r'
      → (to : ℕ) (r'' : Run) (out'' : List ℕ) → PutsOn file version (at + 8) r' out' to r'' out''
      → Putting file version from run out₀ to r'' out''
  put_on {kind} {ms} {x} {y} s m r' out' j to r'' out'' p =
      let e = Mouse (seconds_of ms) kind x y in
      let q = j.right (seconds_of ms) (round_trip r.rule ms m) in
      record {
        right = λ last h. w.right last
            (put_next file version at s r out last (rw (← q.0, ← q.1) (p.right last h)));
        long = p.long ∙ ap length q.1 ∙ wrote_long r out e ∙ w.long;
      }

  pub put_ended : {b : Bool} → StandsOld version file at (ends b) 1
      → PutsEvents file version from run out₀ out
  put_ended {b} s = w.right out
      (record {
        right = λ v es to k q. let z : read [] (at + 1) b
            ≡ read es to k = sym (ended file version at v s) ∙ q in let l : [] ≡ es = cc in
            ap (λ (l : List Event). (put_by r out l).1) l;
      })

  pub put-broken : {n : ℕ} → old_record version file at ≡ no n → PutsEvents file version from run out₀ out
  put-broken {n} e = w.right out
      (record {
        right = λ v es to k q. let z : refused n ≡ read es to k = sym (broken file version at v e)
            ∙ q in let f : ◌≡◌ {A = ℕ} 0 1 = cc in absurd (omega arith);
      })

  -- where no mouse event stands
  pub put_stopped : (o : OldRecord) → TellsOld version file at o
      → ((kind : MouseKind) (ms : GameMs) (x y : ℕ) → o ≢ Moved kind ms x y)
      → PutsEvents file version from run out₀ out
  put_stopped (Moved kind ms x y) t no-mouse = absurd (no-mouse kind ms x y refl)
  put_stopped (End checksum) t no-mouse = put_ended t.means
  put_stopped (Broken n) t no-mouse = put-broken t.means
