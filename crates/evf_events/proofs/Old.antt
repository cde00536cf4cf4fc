-- What versions 0 to 3 can be read as: mouse events at less than 2 ^ 24 ms. Assumes nothing.
use Rattle.std.proofs.Common.{◌≡◌, ℕ, zero, suc, ◌+◌, ◌-◌, ◌^◌, ◌<◌, ◌≤◌, Bool, List, [], ◌∷◌, length, sym, refl, subst, arith}
use lib.Ieee.{Float}
use Rattle.times.specs.Times.{seconds_of}
use Rattle.game.specs.declared.MouseKind.{MouseKind}
use Rattle.game.specs.declared.Event.{Event}
use Rattle.game.specs.declared.Event.TheVariants.{Mouse, State}
use Rattle.byte_reader.specs.Reading.{Bytes, Got}
use Rattle.evf_events.specs.declared.EventCursor.{EventCursor}
use Rattle.evf_events.specs.declared.Step.{Step}
use Rattle.evf_events.specs.declared.Step.TheVariants.{Got as Next, End, Refused}
use Rattle.record_fields.specs.Fields.{Whole}
use Rattle.evf_events.specs.Events.{whole, step_of, Events, read, refused, with_first, step_then, run}
use Rattle.evf_events.specs.Events.{events_from}
use Rattle.record_fields.proofs.Fixed.{field-2, field-3}
use Rattle.records_v0_v3.proofs.Records.{SeenOld, cut, stop, mouse as says, seen-old}
use Rattle.evf_events.proofs.Runs.{Ahead, ahead}
use Rattle.evf_events.proofs.Steps.{step-old}

pub data Old : List Event → Type 0 where
  none : Old []
  mouse : {ms x y : ℕ} {s : Float} {kind : MouseKind} {es : List Event} → s ≡ seconds_of ms → ms < 2 ^ 24
      → Old es → Old (Mouse s kind x y ∷ es)

abbrev OldStep : Step → Type 0
OldStep (Next (Mouse s kind x y) d) = (s ≡ seconds_of d.ms.0) × (d.ms.0 < 2 ^ 24)
OldStep (Next (State s g) d) = ⊥
OldStep (End at checksum) = Unit {0}
OldStep (Refused n) = Unit {0}

abbrev OldRun : Events → Type 0
OldRun (read es at checksum) = Old es
OldRun (refused n) = Unit {0}

old-before : (e : Event) (d : EventCursor) (a : Events) → OldStep (Next e d) → OldRun a
    → OldRun (with_first e a)
old-before (Mouse s kind x y) d (read es at b) h r = mouse h.0 h.1 r
old-before (Mouse s kind x y) d (refused n) h r = tt
old-before (State s g) d a h r = absurd h

old_after : (file : List ℕ) (c : EventCursor) (a : Step) (on : EventCursor → Events) → Ahead file c a
    → OldStep a → c.version < 4
    → ((d : EventCursor) → d.version < 4 → OldRun (on d)) → OldRun (step_then a on)
old_after file c (Next e d) on h o v go = old-before e d (on d) o (go d (omega (arith, h.version)))
old_after file c (End at b) on h o v go = none
old_after file c (Refused n) on h o v go = tt

module _ (file : List ℕ) (bytes : Bytes file) where
  of-record : (version at : ℕ) {g : Got Whole} → SeenOld file at g → OldStep (whole version g)
  of-record version at cut = tt
  of-record version at (stop i b) = tt
  of-record version at (says i kind x y) =
      let l : at + 1 + 3 ≤ length file = omega arith in (
        refl,
        omega (
          arith,
          field-3 file (at + 1) l,
          field-2 file (at + 1) (omega arith),
          bytes (at + 1),
          bytes (at + 1 + 1),
          bytes (at + 1 + 2),
        ),
      )

  old-run : (turns : ℕ) (c : EventCursor) → c.version < 4 → OldRun (run turns file c)
  unfolding run
  old-run zero c v = tt
  old-run (suc turns) c v =
      old_after file c (step_of file c) (run turns file) (ahead file c)
      (subst OldStep (sym (step-old file c v))
      (of-record c.version c.at (seen-old c.version file c.at))) v (old-run turns)

  pub old-events : (c : EventCursor) → c.version < 4 → {es : List Event} {at : ℕ} {checksum : Bool}
      → events_from file c ≡ read es at checksum → Old es
  unfolding events_from
  old-events c v q = subst OldRun q (old-run (suc (length file - c.at)) c v)
