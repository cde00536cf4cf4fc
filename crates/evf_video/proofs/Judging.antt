-- A file judged before any buffer is touched: from what the header, the events and the checksum gave to the
-- reading. Assumes nothing.
use Prim.Native.Nat.{ℕ, ◌+◌}
use mathlib.Core.Path.{◌≡◌, refl, sym, ap, ◌∙◌}
use mathlib.Core.Bool.{Bool}
use mathlib.Core.List.{List}
use native.Mathlib.Omega.{arith}
use lib.ListN.{length}
use Rattle.text.specs.declared.Place.{Place}
use Rattle.game.specs.declared.Event.{Event}
use Rattle.byte_reader.specs.Reading.{ok, no}
use Rattle.evf_header.specs.Opening.{Opened, opening}
use Rattle.evf_events.specs.declared.EventCursor.{EventCursor}
use Rattle.evf_scan.specs.declared.Scan.{Scan}
use Rattle.evf_scan.specs.declared.Scan.TheVariants.{All, Refused as Broken}
use Rattle.evf_events.specs.Start.{first_cursor}
use Rattle.evf_events.specs.Events.{Events, read, refused, events_from}
use Rattle.evf_scan.specs.Scanning.{scanned, scan_of}
use Rattle.evf_video.specs.declared.Judged.{Judged}
use Rattle.evf_video.specs.declared.Outcome.TheVariants.{Read, Refused}
use Rattle.evf_video.specs.Reading.{Reading, game, none, with_checksum, checksum, behind_header}
use Rattle.evf_video.specs.Reading.{reading_of, outcome_number, number_of}
use Rattle.evf_video.specs.Judging.{judged, start_of, judged_of}
use Rattle.evf_video.specs.Parsed.{answer_of}

-- WHAT A SCAN SAW
pub record Seen (E : Events) (n at : ℕ) (checksum : Bool) : Type 0 where
  pub events : List Event
  pub is : E ≡ read events at checksum
  pub many : n ≡ length events

seen : (E : Events) (n at : ℕ) (k : Bool) → All n at k ≡ scanned 0 E → Seen E n at k
seen (read es to f) n at k e =
    let m : n ≡ 0 + length es = cc in
    record { events = es; is = cc; many = omega arith }
seen (refused m) n at k e = let z : ◌≡◌ {A = ℕ} 0 1 = cc in absurd (omega arith)

pub saw : (file : List ℕ) (c d : EventCursor) (r : Scan) {n at : ℕ} {k : Bool} → d ≡ c → r ≡ scan_of file d
    → r ≡ All n at k → Seen (events_from file c) n at k
unfolding scan_of
saw file c d r {n} {at} {k} e f g =
    seen (events_from file c) n at k (sym g ∙ f ∙ ap (λ (x : EventCursor). scanned 0 (events_from file x)) e)

seen_not : (E : Events) (n : ℕ) → Broken n ≡ scanned 0 E → E ≡ refused n
seen_not (read es to f) n e = let z : ◌≡◌ {A = ℕ} 0 1 = cc in absurd (omega arith)
seen_not (refused m) n e = cc

pub saw_none : (file : List ℕ) (c d : EventCursor) (r : Scan) {n : ℕ} → d ≡ c → r ≡ scan_of file d
    → r ≡ Broken n → events_from file c ≡ refused n
unfolding scan_of
saw_none file c d r {n} e f g =
    seen_not (events_from file c) n (sym g ∙ f ∙ ap (λ (x : EventCursor). scanned 0 (events_from file x)) e)

-- THE EVENTS AND THE CHECKSUM
module _ (file : List ℕ) (c : EventCursor) (o : Opened) (E : Events) where
  pub judged-broken : (n : ℕ) → E ≡ refused n
      → judged (first_cursor 0 0) (none n) ≡ judged c (behind_header file o E)
  judged-broken n e = rw e

  module _ (n at : ℕ) (k : Bool) (w : Seen E n at k) where
    pub judged-open : (m : ℕ) → checksum o.header.version k file at ≡ no m
        → judged (first_cursor 0 0) (none m) ≡ judged c (behind_header file o E)
    judged-open m q = rw (w.is, q)

    pub judged-whole : (p : Place) (to : ℕ) → checksum o.header.version k file at ≡ ok p to
        → record {
          outcome = Read;
          header = with_checksum o.header p;
          board = o.board;
          events = n;
          cursor = c;
        } ≡ judged c (behind_header file o E)
    judged-whole p to q = rw (w.is, q, w.many)

-- THE WHOLE FILE
module _ (file : List ℕ) where
  pub judged-opened : (o : Opened) (at : ℕ) → opening file 0 ≡ ok o at
      → judged (first_cursor o.header.version at)
      (behind_header file o (events_from file (first_cursor o.header.version at))) ≡ judged_of file
  unfolding judged_of start_of reading_of
  judged-opened o at e = rw e

  pub judged-refused : (n : ℕ) → opening file 0 ≡ no n → judged (first_cursor 0 0) (none n) ≡ judged_of file
  unfolding judged_of start_of reading_of
  judged-refused n e = rw e

-- A JUDGED FILE TAKEN APART
pub record IsGame (c : EventCursor) (R : Reading) (j : Judged) : Type 0 where
  pub events : List Event
  pub is : R ≡ game j.header j.board events
  pub many : j.events ≡ length events
  pub cursor_is : j.cursor ≡ c

module _ (c : EventCursor) where
  pub is_game : (R : Reading) (j : Judged) → j ≡ judged c R → j.outcome ≡ Read → IsGame c R j
  is_game (game h b es) j e o =
      record {
        events = es;
        is = rw e;
        many = ap (λ (k : Judged). k.events) e;
        cursor_is = ap (λ (k : Judged). k.cursor) e;
      }
  is_game (none n) j e o = let f : j.outcome ≡ Refused n = ap (λ (k : Judged). k.outcome) e in
      let z : ◌≡◌ {A = ℕ} 0 1 = cc in absurd (omega arith)

  pub is_none : (R : Reading) (j : Judged) (n : ℕ) → j ≡ judged c R → j.outcome ≡ Refused n → R ≡ none n
  is_none (game h b es) j n e o = let f : j.outcome ≡ Read = ap (λ (k : Judged). k.outcome) e in
      let z : ◌≡◌ {A = ℕ} 0 1 = cc in absurd (omega arith)
  is_none (none m) j n e o = let f : j.outcome ≡ Refused m = ap (λ (k : Judged). k.outcome) e in cc

  pub number-zero : (R : Reading) (j : Judged) → IsGame c R j → 0 ≡ number_of R
  number-zero R j w = rw w.is

-- the number of an answer is its reading's
pub answer_number : (r : Reading) → outcome_number (answer_of r).outcome ≡ number_of r
answer_number (game h board es) = refl
answer_number (none n) = refl
