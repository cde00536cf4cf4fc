-- The events of a file stand at pixels below 65536, in every version. Assumes nothing but that the file is
-- bytes.
--     small-step    the event of every step does
use Rattle.std.proofs.Common.{ℕ, ◌^◌, ◌<◌, Bool, true, false, cond, eqb, ltb, List, arith}
use Rattle.game.specs.declared.MouseKind.{MouseKind}
use Rattle.game.specs.declared.Event.{Event}
use Rattle.game.specs.declared.Event.TheVariants.{Mouse, State}
use Rattle.game.specs.Kinds.{kind_of}
use Rattle.byte_reader.specs.Reading.{Bytes, Got, ok, no, Reader, refuse}
use Rattle.byte_reader.specs.Numbers.{number}
use Rattle.byte_reader.proofs.Laws.{Of, Only, then-only, pure-only}
use Rattle.header_fields.proofs.Sure.{SureOf, sure-number}
use Rattle.record_fields.specs.Fields.{Whole, ends, mouse, mouse_body}
use Rattle.records_v0_v3.specs.Records.{kind_in, old_body, old_record}
use Rattle.records_v4.specs.Records.{is_first, first_body, first_record}
use Rattle.evf_events.specs.declared.EventCursor.{EventCursor}
use Rattle.evf_events.specs.declared.Step.{Step}
use Rattle.evf_events.specs.declared.Step.TheVariants.{Got as Next, End, Refused}
use Rattle.evf_events.specs.Events.{whole, step_of}
use Rattle.evf_events.proofs.Turns.{by_test, Holds, holds}

abbrev Below : ℕ → ℕ → Type 0
Below x y = (x < 65536) × (y < 65536)

abbrev pub SmallEvent : Event → Type 0
SmallEvent (Mouse s kind x y) = Below x y
SmallEvent (State s state) = Unit {0}

abbrev pub SmallStep : Step → Type 0
SmallStep (Next e d) = SmallEvent e
SmallStep (End at checksum) = Unit {0}
SmallStep (Refused n) = Unit {0}

abbrev SmallWhole : Whole → Type 0
SmallWhole (ends checksum) = Unit {0}
SmallWhole (mouse kind ms x y) = Below x y

of_sure : {A : Type 0} (P : A → Type 0) (g : Got A) → SureOf P g → Of P g
of_sure P (ok a to) h = h
of_sure P (no n) h = tt

of_whole : (version : ℕ) (g : Got Whole) → Of SmallWhole g → SmallStep (whole version g)
of_whole version (ok (ends checksum) to) h = tt
of_whole version (ok (mouse kind ms x y) to) h = h
of_whole version (no n) h = tt

module _ (file : List ℕ) where
  if-only : (t : Bool) (p q : Reader Whole) → Only file p SmallWhole → Only file q SmallWhole
      → Only file (cond t p q) SmallWhole
  if-only true p q f g = f
  if-only false p q f g = g

  refuse-only : (n : ℕ) → Only file (refuse n) SmallWhole
  unfolding refuse
  refuse-only n = record { at_all = λ at. tt }

  module _ (small : Bytes file) where
    number-only : (k : ℕ) → Only file (number k) (λ n. n < 256 ^ k)
    number-only k =
        record {
          at_all = λ at. of_sure (λ (n : ℕ). n < 256 ^ k) (number k file at)
              ((sure-number file small k).at_all at);
        }

    body-only : (k : ℕ) (kind : MouseKind) → Only file (mouse_body k kind) SmallWhole
    unfolding mouse_body
    body-only k kind =
        then-only file _ (number-only k) (λ ms a. then-only file _ (number-only 2) (λ x b.
        then-only file _ (number-only 2) (λ y c. pure-only file (mouse kind ms x y) (b, c))))

    old_only : (version : ℕ) → Only file (old_record version) SmallWhole
    unfolding old_record
    old_only version =
        then-only file (old_body version) (number-only 1) (λ code a.
        if-only (eqb code 0) _ _ (pure-only file (ends true) tt)
        (if-only (eqb code 255) _ _ (pure-only file (ends false) tt) (body-only 3 (kind_in version code))))

    first-only : Only file first_record SmallWhole
    unfolding first_record
    first-only =
        then-only file first_body (number-only 1) (λ code a.
        if-only (is_first code) _ _ (body-only 1 (kind_of code)) (refuse-only _))

    later-small : (c : EventCursor) → Holds SmallStep file c c.at
    later-small c =
        record {
          ends = tt;
          unnamed = tt;
          late = tt;
          stopped = λ at f i. tt;
          moved = λ at ms code dx dy f i m n a b. (omega arith, omega arith);
          became = λ at ms s f i m n. tt;
        }

    pub small-step : (c : EventCursor) → SmallStep (step_of file c)
    unfolding step_of
    small-step c =
        by_test SmallStep (ltb 4 c.version) (λ t. tt)
        (λ t. by_test SmallStep (ltb c.version 4)
        (λ u. of_whole c.version (old_record c.version file c.at)
        ((old_only c.version).at_all c.at))
        (λ u. by_test SmallStep c.first
        (λ f. of_whole c.version (first_record file c.at) (first-only.at_all c.at))
        (λ f. holds SmallStep file c c.at (later-small c))))
