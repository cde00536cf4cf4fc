-- A reading taken apart: the header, the events and the checksum that it came from. Assumes nothing, and of
-- the last two laws that the file is bytes.
--     traced          where a game that was read comes from
--     sound           what its header is, but for the checksum
--     texts-inside    its texts end in the file, the checksum among them
--     metrics-inside  and so does the block of its custom metrics
--     metrics-texts   which is as many texts as the header counts: no reading is refused with 25
use Prim.Native.Nat.{ℕ}
use mathlib.Core.Path.{◌≡◌, refl}
use mathlib.Core.Bool.{Bool, true, false}
use mathlib.Core.List.{List}
use native.Mathlib.Omega.{arith}
use lib.ListN.{get_or, set}
use lib.Seq.{get_or-set_same, get_or-set_other}
use lib.Dec.{eqb}
use borrow.Author.Tests.{eqb-true, eqb-false}
use Rattle.text.specs.declared.Place.{Place}
use Rattle.text.specs.Places.{absent, Inside}
use Rattle.game.specs.declared.Event.{Event}
use Rattle.game.specs.declared.Header.{Header}
use Rattle.game.specs.Header.{checksum_slot, place_at, block_at}
use Rattle.metrics.specs.Texts.{Texts}
use Rattle.byte_reader.specs.Reading.{Bytes, Got, ok, no}
use Rattle.evf_header.proofs.Sound.{Sound, opening-gives}
use Rattle.evf_header.specs.Opening.{Opened, opening}
use Rattle.evf_events.specs.Events.{Events, read, refused, events_from}
use Rattle.evf_events.specs.Start.{first_cursor}
use Rattle.evf_video.specs.Reading.{game, checksum, with_checksum, behind_events, behind_header, from_start}
use Rattle.evf_video.specs.Reading.{reading_of}
use Rattle.evf_video.proofs.Answers.{checksum-sure}

pub record Trace (s : List ℕ) (h : Header) (board : Place) (es : List Event) : Type 0 where
  pub opened : Opened
  pub at : ℕ
  pub opens : opening s 0 ≡ ok opened at
  pub to : ℕ
  pub follows : Bool
  pub runs : events_from s (first_cursor opened.header.version at) ≡ read es to follows
  pub sum : Place
  pub end : ℕ
  pub sums : checksum opened.header.version follows s to ≡ ok sum end
  pub header_is : h ≡ with_checksum opened.header sum
  pub board_is : board ≡ opened.board

module _ (s : List ℕ) {h : Header} {board : Place} {es : List Event} where
  of-sum : (o : Opened) (at : ℕ) → opening s 0 ≡ ok o at → (ds : List Event) (to : ℕ) (k : Bool)
      → events_from s (first_cursor o.header.version at) ≡ read ds to k
      → (g : Got Place) → checksum o.header.version k s to ≡ g → behind_events o ds g ≡ game h board es
      → Trace s h board es
  of-sum o at a ds to k b (ok p end) c q =
      let e : es ≡ ds = cc in
      record {
        opened = o;
        at = at;
        opens = a;
        to = to;
        follows = k;
        runs = rw e b;
        sum = p;
        end = end;
        sums = c;
        header_is = cc;
        board_is = cc;
      }
  of-sum o at a ds to k b (no n) c q = let z : ◌≡◌ {A = ℕ} 0 1 = cc in absurd (omega arith)

  of-events : (o : Opened) (at : ℕ) → opening s 0 ≡ ok o at → (E : Events)
      → events_from s (first_cursor o.header.version at) ≡ E
      → behind_header s o E ≡ game h board es → Trace s h board es
  of-events o at a (read ds to k) b q = of-sum o at a ds to k b (checksum o.header.version k s to) refl q
  of-events o at a (refused n) b q = let z : ◌≡◌ {A = ℕ} 0 1 = cc in absurd (omega arith)

  of-start : (g : Got Opened) → opening s 0 ≡ g → from_start s g ≡ game h board es → Trace s h board es
  of-start (ok o at) a q = of-events o at a (events_from s (first_cursor o.header.version at)) refl q
  of-start (no n) a q = let z : ◌≡◌ {A = ℕ} 0 1 = cc in absurd (omega arith)

  pub traced : reading_of s ≡ game h board es → Trace s h board es
  unfolding reading_of
  traced q = of-start (opening s 0) refl q

module _ (s : List ℕ) (small : Bytes s) {h : Header} {board : Place} {es : List Event}
    (reads : reading_of s ≡ game h board es) where
  pub way : Trace s h board es
  way = traced s reads

  pub sound : Sound s way.opened.header way.opened.board
  sound = opening-gives s small 0 way.opened way.at way.opens

  -- every text ends in the file, the checksum behind the events among them
  sum_inside : Inside s way.sum
  sum_inside = (rw way.sums at
      ((checksum-sure s small way.opened.header.version way.follows).at_all way.to)).0

  pub texts-inside : (slot : ℕ) → Inside s (place_at h slot)
  texts-inside slot =
      let o = way.opened.header in
      let p = way.sum in
      let checksum-there : get_or (set o.texts checksum_slot p) checksum_slot absent ≡ p =
      get_or-set_same o.texts checksum_slot p absent (omega (arith, sound.nine)) in
      rw way.header_is
      ((elim (eqb slot checksum_slot) as
      (λ t. eqb slot checksum_slot ≡ t → Inside s (get_or (set o.texts checksum_slot p) slot absent)) [
        | true ↦ λ e. rw (eqb-true slot checksum_slot e, checksum-there) sum_inside
        | false ↦ λ e. rw
            (get_or-set_other o.texts checksum_slot slot p absent (eqb-false slot checksum_slot e))
            (sound.texts_in slot)
      ])
      refl)

  pub metrics-inside : Inside s h.metrics
  metrics-inside = rw way.header_is sound.metrics_in

  pub metrics-texts : Texts h.metrics_count (block_at h s)
  metrics-texts = rw way.header_is sound.metrics
