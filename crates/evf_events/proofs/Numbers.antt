-- What a step and a whole reading can answer. Assumes nothing.
--     past_end         a place at or past the end is 1 in every version (a version above 4 is 2 first:
--                      `step-unknown`)
--     step-number      a step refuses with 1, 2, 8, 9 or 10
--     events-number    and so does the reading of all events
--     events-room      an event takes two bytes or more, and the end one
use Rattle.std.proofs.Common.{◌≡◌, ℕ, zero, suc, ◌+◌, ◌-◌, ◌*◌, ◌<◌, ◌≤◌, Bool, ltb, List, length, refl, subst, arith, le-ltb}
use Rattle.game.specs.declared.Event.{Event}
use Rattle.game.specs.Refusals.{file_ends, version_unknown, first_code_unknown, code_unknown, ms_too_large}
use Rattle.byte_reader.specs.Reading.{Got}
use Rattle.evf_events.specs.declared.EventCursor.{EventCursor}
use Rattle.evf_events.specs.declared.Step.{Step}
use Rattle.evf_events.specs.declared.Step.TheVariants.{Got as Next, End, Refused}
use Rattle.record_fields.specs.Fields.{Whole}
use Rattle.evf_events.specs.Events.{whole, step_of, Events, read, refused, with_first, step_then, run}
use Rattle.evf_events.specs.Events.{events_from}
use Rattle.records_v0_v3.proofs.Records.{old-end}
use Rattle.records_v4.proofs.Records.{first-end, later-end}
use Rattle.records_v0_v3.proofs.Records.{SeenOld, cut, stop, mouse}
use Rattle.records_v4.proofs.Seen.{SeenFirst, cut as first-cut, unknown, mouse as first-mouse}
use Rattle.evf_events.proofs.Turns.{by_test, turned, Holds, holds}
use Rattle.evf_events.proofs.Runs.{of-step, Ahead, ahead}

module _ (file : List ℕ) (c : EventCursor) where
  pub past_end : c.version ≤ 4 → length file ≤ c.at → step_of file c ≡ Refused file_ends
  unfolding step_of
  past_end v h =
      rw (
        le-ltb 4 c.version v,
        old-end file c.at c.version h,
        first-end file c.at h,
        turned file c c.at 0 (later-end file c.at h),
      )
      (by_test (λ (a : Step). a ≡ Refused file_ends) (ltb c.version 4) (λ t. refl)
      (λ t. by_test (λ (a : Step). a ≡ Refused file_ends) c.first (λ u. refl) (λ u. refl)))

-- the refusals of a step
pub data StepNumber : ℕ → Type 0 where
  was_file_ends : StepNumber file_ends
  was_version_unknown : StepNumber version_unknown
  was_first_code_unknown : StepNumber first_code_unknown
  was_code_unknown : StepNumber code_unknown
  was_ms_too_large : StepNumber ms_too_large

abbrev Numbered : Step → Type 0
Numbered (Next e d) = Unit {0}
Numbered (End at checksum) = Unit {0}
Numbered (Refused n) = StepNumber n

module _ (file : List ℕ) (c : EventCursor) where
  old-numbered : (g : Got Whole) → SeenOld file c.at g → Numbered (whole c.version g)
  old-numbered g cut = was_file_ends
  old-numbered g (stop i b) = tt
  old-numbered g (mouse i kind x y) = tt

  first-numbered : (g : Got Whole) → SeenFirst file c.at g → Numbered (whole c.version g)
  first-numbered g first-cut = was_file_ends
  first-numbered g unknown = was_first_code_unknown
  first-numbered g (first-mouse i code x y e) = tt

  later-numbered : Holds Numbered file c c.at
  later-numbered =
      record {
        ends = was_file_ends;
        unnamed = was_code_unknown;
        late = was_ms_too_large;
        stopped = λ at f i. tt;
        moved = λ at ms code dx dy f i m n a b. tt;
        became = λ at ms s f i m n. tt;
      }

  numbered : Numbered (step_of file c)
  numbered = of-step Numbered file c was_version_unknown (λ v g s. old-numbered g s)
      (λ v f g s. first-numbered g s) (λ v f. holds Numbered file c c.at later-numbered)

  pub step-number : {n : ℕ} → step_of file c ≡ Refused n → StepNumber n
  step-number q = subst Numbered q numbered

-- ALL EVENTS: what a step keeps, every step keeps
abbrev Room : List ℕ → ℕ → Events → Type 0
Room file from (read es at checksum) = (from + 2 * length es < at) × (at ≤ length file)
Room file from (refused n) = StepNumber n

room_before : (file : List ℕ) (from to : ℕ) (e : Event) (a : Events) → from + 2 ≤ to → Room file to a
    → Room file from (with_first e a)
room_before file from to e (read es at b) h r = (omega (arith, r.0), r.1)
room_before file from to e (refused n) h r = r

room_after : (file : List ℕ) (c : EventCursor) (a : Step) (on : EventCursor → Events) → Ahead file c a
    → Numbered a → ((d : EventCursor) → Room file d.at (on d)) → Room file c.at (step_then a on)
room_after file c (Next e d) on h n go = room_before file c.at d.at e (on d) h.further (go d)
room_after file c (End at b) on h n go = (omega (arith, h.0), h.1)
room_after file c (Refused k) on h n go = n

room : (turns : ℕ) (file : List ℕ) (c : EventCursor) → Room file c.at (run turns file c)
unfolding run
room zero file c = was_file_ends
room (suc turns) file c =
    room_after file c (step_of file c) (run turns file) (ahead file c) (numbered file c) (room turns file)

module _ (file : List ℕ) (c : EventCursor) where
  room-all : Room file c.at (events_from file c)
  unfolding events_from
  room-all = room (suc (length file - c.at)) file c

  pub events-number : {n : ℕ} → events_from file c ≡ refused n → StepNumber n
  events-number q = subst (Room file c.at) q room-all

  pub events-room : {es : List Event} {at : ℕ} {checksum : Bool} → events_from file c ≡ read es at checksum
      → (c.at + 2 * length es < at) × (at ≤ length file)
  events-room q = subst (Room file c.at) q room-all
