-- A WHOLE FILE OF VERSION 3 IS READ (01, Header, Board, Events, "Version 3 writer"). Assumes nothing of
-- `toMs`, by which seconds become milliseconds.
--     file-back       the file of a game that version 3 holds, where its start and end are read
--     file-refused    and where they are refused
use Prim.Native.Nat.{ℕ, ◌+◌}
use mathlib.Core.Path.{◌≡◌, refl, sym, subst}
use mathlib.Core.Bool.{Bool, true, false, cond, ◌||◌}
use mathlib.Core.List.{List, [], ◌∷◌, ◌++◌}
use native.Mathlib.Omega.{arith}
use lib.Dec.{lit<, eqb}
use lib.Ieee.{Float}
use lib.ListN.{length}
use borrow.Author.Tests.{eqb-true}
use Rattle.text.specs.declared.Place.{Place}
use Rattle.text.specs.Places.{absent, bytes_at}
use Rattle.game.specs.Header.{checksum_slot}
use Rattle.game.specs.Limits.{checksum_length}
use Rattle.game.specs.Same.{Game, text_of}
use Rattle.byte_reader.specs.Reading.{ok, no, pure}
use Rattle.byte_reader.specs.Numbers.{bytes_of}
use Rattle.byte_reader.proofs.Laws.{Stands, front, behind, Takes, pure-takes, number-takes, bytes-takes}
use Rattle.header_fields.specs.declared.Span.{Span}
use Rattle.header_software.specs.declared.Times.TheVariants.{Known, Refused}
use Rattle.metrics.specs.Block.{no_metrics}
use Rattle.evf_header.specs.Opening.{front_of, metrics_of, opening}
use Rattle.evf_events.specs.Start.{first_cursor}
use Rattle.evf_video.specs.Reading.{none, checksum, reading_of}
use Rattle.mouse_records.specs.Records.{nothing_yet, row_bytes}
use Rattle.evf_records.specs.Refusals.{too_late}
use Rattle.layout_fields.specs.Fields.{board_bytes}
use Rattle.layout_v3.specs.Version3.{no_checksum, front3, tail3}
use Rattle.layout_v3.proofs.Back.{Holdable3, front-takes, front-refuses, read_order}
use Rattle.evf_layout.specs.Layout.{file_of}
use Rattle.fields_back.specs.Carried.{times_read, carried3}
use Rattle.fields_back.proofs.Taken.{Refuses, then-refuses, refuses-then, when-takes}
use Rattle.read_back.specs.Saved.{Places, saved_as}
use Rattle.read_back.proofs.Header.{OpenedCarries, any-opening}
use Rattle.read_back.proofs.Whole.{whole_back}
use Rattle.read_back_v3.specs.Back3.{end_code, ReadsBack3}
use Rattle.read_back_v3.proofs.Events3.{events_back}

-- BEFORE THE EVENTS
module _ (s : List ℕ) (g : Game) (w : Holdable3 g) where
  opening-takes : (span : Span) → times_read g ≡ Known span
      → Takes s opening (front3 g) (OpenedCarries s 3 g (carried3 span g))
  unfolding front_of metrics_of
  opening-takes span times =
      subst (λ (l : List ℕ). Takes s opening l (OpenedCarries s 3 g (carried3 span g))) (read_order g)
      (any-opening s 3 g (carried3 span g) (omega arith) w.sizes (front-takes s g w span times)
      (pure-takes s no_metrics (record { count = refl; block = refl })))

  opening-refuses : (n : ℕ) → times_read g ≡ Refused n → Refuses s opening (front3 g) n
  unfolding opening front_of
  opening-refuses n times =
      subst (λ (l : List ℕ). Refuses s opening l n) (read_order g)
      (then-refuses s _ (number-takes s 1 3 (lit< tt)) λ v e.
      rw e
      (then-refuses s _ (when-takes s false _ refl) λ u _.
      refuses-then s _ (front-refuses s g w n times) (board_bytes g ++ [])))

-- BEHIND THEM: a code that ends the events, and the checksum at its place
record Tail (s : List ℕ) (to : ℕ) (sum e : List ℕ) : Type 0 where
  follows : Bool
  rest : List ℕ
  ends : e ≡ end_code follows ∷ rest
  place : Place
  after : ℕ
  gives : checksum 3 follows s to ≡ ok place after
  holds : bytes_at s place ≡ sum

empty : (l : List ℕ) → length l ≡ 0 → [] ≡ l
empty [] e = refl
empty (b ∷ l) e = absurd (omega (arith, e))

module _ (s sum r : List ℕ) (at : ℕ) where
  -- where the length is 0 no checksum follows, and where it is 32 one does
  tail-by : (b : Bool) → eqb (length sum) 0 ≡ b → (b || eqb (length sum) checksum_length) ≡ true
      → Stands s at (cond b (bytes_of 1 no_checksum) (bytes_of 1 0 ++ sum)) r
      → Tail s (at + 1) sum (cond b (bytes_of 1 no_checksum) (bytes_of 1 0 ++ sum) ++ r)
  unfolding checksum pure
  tail-by true e l h =
      record {
        follows = false;
        rest = r;
        ends = refl;
        place = absent;
        after = at + 1;
        gives = refl;
        holds = empty sum (eqb-true (length sum) 0 e);
      }
  tail-by false e l h =
      let n : length sum ≡ checksum_length = eqb-true (length sum) checksum_length l in
      let p = (bytes-takes s sum checksum_length (sym n)).go (at + 1) r (behind s at (bytes_of 1 0) sum r h) in
      record {
        follows = true;
        rest = sum ++ r;
        ends = refl;
        place = p.value;
        after = at + 1 + length sum;
        gives = p.gives;
        holds = p.holds;
      }

-- THE FILE
module _ (toMs : Float → ℕ) (g : Game) (w : Holdable3 g) (s r : List ℕ)
    (h : Stands s 0 (file_of toMs 3 g) r) where
  pub file-back : Places g.events → too_late toMs g.events ≡ false
      → (eqb (length (text_of g checksum_slot)) 0 || eqb (length (text_of g checksum_slot)) checksum_length) ≡ true
      → (span : Span) → times_read g ≡ Known span → ReadsBack3 s (saved_as 3 (carried3 span g) toMs g)
  unfolding tail3
  file-back places late sum span times =
      let row = row_bytes toMs 3 nothing_yet g.events in
      let at = 0 + length (front3 g) in
      let later = behind s 0 (front3 g) (row ++ tail3 g) r h in
      let o = (opening-takes s g w span times).go 0 ((row ++ tail3 g) ++ r)
      (front s 0 (front3 g) (row ++ tail3 g) r h) in
      let t = tail-by s (text_of g checksum_slot) r (at + length row)
      (eqb (length (text_of g checksum_slot)) 0) refl sum (behind s at row (tail3 g) r later) in
      let stands : Stands s at row (end_code t.follows ∷ t.rest) =
      subst (λ (l : List ℕ). Stands s at row l) t.ends (front s at row (tail3 g) r later) in
      let es = events_back s toMs places (first_cursor 3 at) refl nothing_yet t.follows late stands in
      whole_back toMs 3 g (carried3 span g) s o.value at (at + length row + 1) t.follows t.place
      o.holds o.gives es t.gives t.holds refl

  pub file-refused : (n : ℕ) → times_read g ≡ Refused n → reading_of s ≡ none n
  unfolding reading_of
  file-refused n times =
      let row = row_bytes toMs 3 nothing_yet g.events in
      rw ((opening-refuses s g w n times).go 0 ((row ++ tail3 g) ++ r)
      (front s 0 (front3 g) (row ++ tail3 g) r h))
