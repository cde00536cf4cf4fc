-- What is left out of a file whose header is read, from its events and its checksum. Assumes nothing.
--     left-whole, left_open, left-broken    by the events and the checksum
--     left-read    of a file whose header is read
--     left_none    of one whose header is refused
use Prim.Native.Nat.{ℕ}
use mathlib.Core.Path.{◌≡◌, refl, ap, ◌∙◌}
use mathlib.Core.Bool.{Bool}
use mathlib.Core.List.{List}
use native.Mathlib.Omega.{arith}
use lib.Seq.{get_or-set_other}
use Rattle.text.specs.declared.Place.{Place}
use Rattle.text.specs.Places.{absent}
use Rattle.game.specs.declared.Header.{Header}
use Rattle.game.specs.declared.Event.{Event}
use Rattle.game.specs.Header.{country_slot, checksum_slot, place_at}
use Rattle.byte_reader.specs.Reading.{Got, ok, no}
use Rattle.evf_header.specs.Opening.{Opened, opening}
use Rattle.evf_events.specs.declared.EventCursor.{EventCursor}
use Rattle.evf_events.specs.Events.{Events, read, refused, first_events, events_from}
use Rattle.evf_events.specs.Start.{first_cursor}
use Rattle.evf_video.specs.Reading.{checksum, with_checksum, behind_events, behind_header, reading_of}
use Rattle.evf_video.proofs.Judging.{Seen}
use Rattle.evf_video.proofs.Singly.{yields, all-events}
use Rattle.left_out.specs.declared.LeftOut.{LeftOut}
use Rattle.left_out.specs.Ending.{behind_sum, behind_all, end_of}
use Rattle.left_out.specs.LeftOut.{states_in, left_at, nothing, left_of, left_out_of}
use Rattle.left_out.specs.Steps.{left_behind, left_by}

-- the checksum leaves the country where it is
country_kept : (h : Header) (p : Place) → place_at (with_checksum h p) country_slot ≡ place_at h country_slot
country_kept h p = get_or-set_other h.texts checksum_slot country_slot p absent (λ e. omega (arith, e))

-- A HEADER, by what the scan saw of its events and by its checksum
module _ (file : List ℕ) (h : Header) (c : EventCursor) where
  pub left-broken : (n : ℕ) → events_from file c ≡ refused n → nothing ≡ left_by file h (events_from file c)
  left-broken n e = rw e

  module _ (n at : ℕ) (k : Bool) (w : Seen (events_from file c) n at k) where
    pub left_open : (m : ℕ) → checksum h.version k file at ≡ no m
        → nothing ≡ left_by file h (events_from file c)
    left_open m q = rw (w.is, q)

    -- so many events from the cursor on are all of them
    counted : first_events n file c ≡ w.events
    counted = ap (λ (m : ℕ). first_events m file c) w.many
        ∙ all-events (yields file at k w.events c w.is)

    pub left-whole : (p : Place) (to : ℕ) → checksum h.version k file at ≡ ok p to
        → {r : LeftOut} {d : EventCursor} → d ≡ c → r ≡ left_at file h n (states_in (first_events n file d)) to
        → r ≡ left_by file h (events_from file c)
    left-whole p to q {r} {d} e f =
        f ∙ ap (λ (x : EventCursor). left_at file h n (states_in (first_events n file x)) to) e
        ∙ rw (counted, w.is, q, w.many)

-- A FILE, by its header
module _ (file : List ℕ) (o : Opened) where
  by-sum : (es : List Event) (g : Got Place) → end_of file ≡ behind_sum g
      → left_behind file o.header es g ≡ left_of file (behind_events o es g)
  by-sum es (ok p to) e = rw (e, country_kept o.header p)
  by-sum es (no n) e = refl

  by-events : (E : Events) → end_of file ≡ behind_all file o E
      → left_by file o.header E ≡ left_of file (behind_header file o E)
  by-events (read es at follows) e = by-sum es (checksum o.header.version follows file at) e
  by-events (refused n) e = refl

  pub left-read : (at : ℕ) → opening file 0 ≡ ok o at
      → left_by file o.header (events_from file (first_cursor o.header.version at)) ≡ left_out_of file
  unfolding left_out_of reading_of end_of
  left-read at e = by-events (events_from file (first_cursor o.header.version at)) (rw e) ∙ rw e

pub left_none : (file : List ℕ) (n : ℕ) → opening file 0 ≡ no n → nothing ≡ left_out_of file
unfolding left_out_of reading_of
left_none file n e = rw e
