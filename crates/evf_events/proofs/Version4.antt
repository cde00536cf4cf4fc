-- What version 4 can be read as. Assumes nothing.
--     all-events      from the first record on: the first event is mv, lc, rc or pf at less than 256 ms, and
--                     the rest is as below
--     later-events    behind it: no kind is ub, and milliseconds never fall and stay below 2 ^ 32
use Rattle.std.proofs.Common.{◌≡◌, ℕ, zero, suc, ◌+◌, ◌-◌, ◌^◌, ◌<◌, ◌≤◌, Bool, true, false, not, ◌||◌, T, eqb, ◌≢◌, List, [], ◌∷◌, length, sym, refl, ◌∙◌, subst, arith, eqb→eq}
use mathlib.Core.Bool.{or-false, false≢true}
use lib.Ieee.{Float}
use Rattle.lists.proofs.Tables.{below}
use Rattle.times.specs.Times.{seconds_of}
use Rattle.game.specs.declared.MouseKind.{MouseKind}
use Rattle.game.specs.declared.MouseKind.TheVariants.{Mv, Lc, Lr, Rc, Rr, Mc, Mr, Pf, Cc, L, R, M, Ub}
use Rattle.game.specs.declared.GameState.{GameState}
use Rattle.game.specs.declared.Event.{Event}
use Rattle.game.specs.declared.Event.TheVariants.{Mouse, State}
use Rattle.game.specs.Kinds.{kind_of, code_of, begins}
use Rattle.byte_reader.specs.Reading.{Bytes, Got}
use Rattle.evf_events.specs.declared.EventCursor.{EventCursor}
use Rattle.evf_events.specs.declared.Step.{Step}
use Rattle.evf_events.specs.declared.Step.TheVariants.{Got as Next, End, Refused}
use Rattle.record_fields.specs.Fields.{Whole}
use Rattle.records_v4.specs.Records.{is_first, first_record}
use Rattle.evf_events.specs.Events.{whole, step_of, Events, read, refused, with_first, step_then, run}
use Rattle.evf_events.specs.Events.{events_from}
use Rattle.record_fields.specs.Fields.{field}
use Rattle.record_fields.proofs.Fixed.{field-1}
use Rattle.records_v4.proofs.Seen.{SeenFirst, cut, unknown, mouse as says, seen_first}
use Rattle.evf_events.proofs.Turns.{Holds, holds}
use Rattle.evf_events.proofs.Runs.{Ahead, ahead, turn}
use Rattle.evf_events.proofs.Steps.{step-first, step-later}

-- the kinds that version 4 can begin with
pub data FirstKind : MouseKind → Type 0 where
  mv : FirstKind Mv
  lc : FirstKind Lc
  rc : FirstKind Rc
  pf : FirstKind Pf

-- events after one at `last` ms
pub data Rising : ℕ → List Event → Type 0 where
  none : {last : ℕ} → Rising last []
  mouse : {last ms x y : ℕ} {s : Float} {kind : MouseKind} {es : List Event} → s ≡ seconds_of ms → last ≤ ms
      → ms < 2 ^ 32 → kind ≢ Ub → Rising ms es → Rising last (Mouse s kind x y ∷ es)
  state : {last ms : ℕ} {s : Float} {g : GameState} {es : List Event} → s ≡ seconds_of ms → last ≤ ms
      → ms < 2 ^ 32 → Rising ms es → Rising last (State s g ∷ es)

-- all events of version 4
pub data Version4 : List Event → Type 0 where
  starts : {ms x y : ℕ} {s : Float} {kind : MouseKind} {es : List Event} → s ≡ seconds_of ms → ms < 256
      → FirstKind kind → Rising ms es → Version4 (Mouse s kind x y ∷ es)

-- CODES
first_kind : (kind : MouseKind) → begins kind ≡ true → FirstKind kind
first_kind Mv e = mv
first_kind Lc e = lc
first_kind Lr e = absurd (false≢true e)
first_kind Rc e = rc
first_kind Rr e = absurd (false≢true e)
first_kind Mc e = absurd (false≢true e)
first_kind Mr e = absurd (false≢true e)
first_kind Pf e = pf
first_kind Cc e = absurd (false≢true e)
first_kind L e = absurd (false≢true e)
first_kind R e = absurd (false≢true e)
first_kind M e = absurd (false≢true e)
first_kind Ub e = absurd (false≢true e)

first_code : (code : ℕ) → is_first code ≡ true → FirstKind (kind_of code)
unfolding is_first
first_code code e = first_kind (kind_of code) e

abbrev named : ℕ → Bool
named code = eqb code 0 || not (eqb (code_of (kind_of code)) 99)

all_named : (code : ℕ) → code < 13 → T (named code)
unfolding kind_of
all_named = below named 13 tt

not_ub : (code : ℕ) → code ≢ 0 → code ≤ 12 → kind_of code ≢ Ub
not_ub code a b e = go
    (subst (λ (k : MouseKind). T (eqb code 0 || not (eqb (code_of k) 99))) e (all_named code (omega arith)))
  where
    go : T (eqb code 0 || false) → ⊥
    go t = absurd (a (eqb→eq code 0 (rw or-false at t)))

-- EVENTS AFTER THE FIRST
abbrev pub Follows : ℕ → Step → Type 0
Follows last (Next (Mouse s kind x y) d) =
    (s ≡ seconds_of d.ms.0) × (last ≤ d.ms.0) × (d.ms.0 < 2 ^ 32) × (kind ≢ Ub)
Follows last (Next (State s g) d) = (s ≡ seconds_of d.ms.0) × (last ≤ d.ms.0) × (d.ms.0 < 2 ^ 32)
Follows last (End at checksum) = Unit {0}
Follows last (Refused n) = Unit {0}

module _ (file : List ℕ) (c : EventCursor) where
  later-follows : Holds (Follows c.ms.0) file c c.at
  later-follows =
      record {
        ends = tt;
        unnamed = tt;
        late = tt;
        stopped = λ at f i. tt;
        moved = λ at ms code dx dy f i m n a b. (refl, m, omega arith, not_ub code a b);
        became = λ at ms s f i m n. (refl, m, omega arith);
      }

  pub follows : c.version ≡ 4 → c.first ≡ false → Follows c.ms.0 (step_of file c)
  follows v f = subst (Follows c.ms.0) (sym (step-later file c v f))
      (holds (Follows c.ms.0) file c c.at later-follows)

abbrev Rises : ℕ → Events → Type 0
Rises last (read es at checksum) = Rising last es
Rises last (refused n) = Unit {0}

rises_before : (last : ℕ) (e : Event) (d : EventCursor) (a : Events) → Follows last (Next e d)
    → Rises d.ms.0 a → Rises last (with_first e a)
rises_before last (Mouse s kind x y) d (read es at b) h r = mouse h.0 h.1 h.2 h.3 r
rises_before last (State s g) d (read es at b) h r = state h.0 h.1 h.2 r
rises_before last (Mouse s kind x y) d (refused n) h r = tt
rises_before last (State s g) d (refused n) h r = tt

rises_after : (file : List ℕ) (c : EventCursor) (a : Step) (on : EventCursor → Events) → Ahead file c a
    → Follows c.ms.0 a → c.version ≡ 4
    → ((d : EventCursor) → d.version ≡ 4 → d.first ≡ false → Rises d.ms.0 (on d))
    → Rises c.ms.0 (step_then a on)
rises_after file c (Next e d) on h f v go =
    rises_before c.ms.0 e d (on d) f (go d (h.version ∙ v) h.first)
rises_after file c (End at b) on h f v go = none
rises_after file c (Refused n) on h f v go = tt

rises : (turns : ℕ) (file : List ℕ) (c : EventCursor) → c.version ≡ 4 → c.first ≡ false
    → Rises c.ms.0 (run turns file c)
unfolding run
rises zero file c v f = tt
rises (suc turns) file c v f =
    rises_after file c (step_of file c) (run turns file) (ahead file c) (follows file c v f) v
    (rises turns file)

-- from a cursor behind the first record
pub later-events : (file : List ℕ) (c : EventCursor) → c.version ≡ 4 → c.first ≡ false
    → {es : List Event} {at : ℕ} {checksum : Bool} → events_from file c ≡ read es at checksum
    → Rising c.ms.0 es
unfolding events_from
later-events file c v f q = subst (Rises c.ms.0) q (rises (suc (length file - c.at)) file c v f)

-- ALL OF THEM
abbrev Begins : Events → Type 0
Begins (read es at checksum) = Version4 es
Begins (refused n) = Unit {0}

begin : (ms x y : ℕ) (kind : MouseKind) (a : Events) → ms < 256 → FirstKind kind → Rises ms a
    → Begins (with_first (Mouse (seconds_of ms) kind x y) a)
begin ms x y kind (read es at b) l k r = starts refl l k r
begin ms x y kind (refused n) l k r = tt

module _ (file : List ℕ) (bytes : Bytes file) (c : EventCursor) (v : c.version ≡ 4) where
  rises-from : (d : EventCursor) → d.version ≡ 4 → d.first ≡ false → Rises d.ms.0 (events_from file d)
  unfolding events_from
  rises-from d v f = rises (suc (length file - d.at)) file d v f

  of-first : {g : Got Whole} → SeenFirst file c.at g
      → Begins (step_then (whole c.version g) (events_from file))
  of-first cut = tt
  of-first unknown = tt
  of-first (says i code x y e) =
      let d : EventCursor =
      record {
        version = c.version;
        at = c.at + 6;
        first = false;
        ms = record { 0 = field 1 file (c.at + 1) };
        x = x;
        y = y;
      } in
      begin (field 1 file (c.at + 1)) x y (kind_of code) (events_from file d)
      (omega (arith, field-1 file (c.at + 1) (omega arith), bytes (c.at + 1))) (first_code code e)
      (rises-from d v refl)

  pub all-events : c.first ≡ true → {es : List Event} {at : ℕ} {checksum : Bool}
      → events_from file c ≡ read es at checksum → Version4 es
  all-events f q =
      let t : events_from file c ≡ step_then (whole c.version (first_record file c.at)) (events_from file) =
      turn file c ∙ rw (step-first file c v f) in
      subst Begins (sym t ∙ q) (of-first (seen_first file c.at))
