-- What the steps of a re-save come to: a game written from the events in its file, and a file judged before.
-- Assumes nothing.
use Prim.Native.Nat.{ℕ, ◌*◌, ◌^◌, ◌≤◌, ◌<◌}
use mathlib.Core.Path.{◌≡◌, sym, ap, ◌∙◌}
use mathlib.Core.List.{List}
use native.Mathlib.Omega.{arith}
use lib.IntN.{ℤ}
use lib.ListN.{length}
use lib.Seq.{sets}
use borrow.Author.Tests.{le-leb}
use Rattle.text.specs.declared.Place.{Place}
use Rattle.text.specs.Places.{bytes_at}
use Rattle.board.specs.Bits.{bit_at}
use Rattle.board.specs.Geometry.{board_after}
use Rattle.game.specs.declared.Event.{Event}
use Rattle.game.specs.declared.Header.{Header}
use Rattle.evf_events.specs.Events.{first_events}
use Rattle.evf_video.specs.declared.Judged.{Judged}
use Rattle.evf_video.specs.declared.Outcome.TheVariants.{Read, Refused as Lost}
use Rattle.evf_video.specs.Judging.{judged_of}
use Rattle.evf_video.specs.Reading.{Reading, game, reading_of, cells_at}
use Rattle.evf_video.proofs.Singly.{singly, all-events}
use Rattle.evf_records.specs.declared.Seen.{Seen}
use Rattle.evf_records.specs.Steps.{unseen, seen_by, put_by}
use Rattle.layout_fields.specs.Fields.{lent}
use Rattle.generate_evf.specs.declared.Ready.{Ready}
use Rattle.generate_evf.specs.declared.Written.{Written}
use Rattle.generate_evf.specs.Written.{written_of, file_then, refused_with}
use Rattle.generate_evf.specs.Steps.{ready_of, around_of}
use Rattle.generate_evf.proofs.Whole.{generates}
use Rattle.upgrade.proofs.Board.{same-written, same-file}
use Rattle.upgrade.proofs.Copies.{cells-most, is_judged, is_lost}
use Rattle.resave.specs.Resaved.{resaved_by, resave_by, Resaves}
use Rattle.resave.specs.Steps.{SavesLent, SavesPacked}

-- ITS BOARD LENT
pub saved_lent : (file : List ℕ) (h : Header) (board : List ℤ) (es : List Event) (copy : List ℕ)
    (rule : ℕ) → length copy < 2 ^ 64 → (seen : Seen) → seen ≡ seen_by (unseen 4 rule) es
    → (ready : Ready) → ready ≡ ready_of h file board seen copy
    → (mid : List ℕ) → mid ≡ around_of h file board seen copy
    → (out : List ℕ) → out ≡ (put_by ready.run mid es).1
    → SavesLent file h board es copy rule ready.written out
saved_lent file h board es copy rule long seen s ready r mid m out w =
    let g = generates 4 rule h file board es copy long in
    record { answer_is = rw (r, s) g.answer_is; copy_is = w ∙ rw (r, m, s) g.file_is }

-- ITS BOARD PACKED IN THE FILE
pub saved_packed : (file : List ℕ) (h : Header) (place : Place) (es : List Event) (copy : List ℕ)
    (rule : ℕ) → h.height < 256 → h.width < 256
    → (d d' : List ℤ) (bits : List ℕ) → 65025 ≡ length d → bits ≡ bytes_at file place
    → d' ≡ board_after (bit_at bits) h.height h.width d
    → (answer : Written) (out : List ℕ) → SavesLent file h d' es copy rule answer out
    → SavesPacked file h place es copy rule answer out
unfolding board_after
saved_packed file h place es copy rule tall wide d d' bits long p e answer out g =
    let room : h.height * h.width ≤ length d =
    omega (arith, cells-most h.height h.width tall wide, long) in
    let f : d' ≡ sets d 0 (cells_at file h place) =
    e ∙ rw (p, le-leb (h.height * h.width) (length d) room) in
    record {
      answer_is = g.answer_is ∙ ap (λ (l : List ℤ). written_of rule 4 (lent h file l es) (length copy)) f
          ∙ same-written rule file h place es tall wide d room (length copy);
      copy_is = g.copy_is ∙ ap (λ (l : List ℤ). file_then rule 4 (lent h file l es) copy) f
          ∙ same-file rule file h place es tall wide d room copy;
    }

-- A FILE THAT WAS JUDGED
module _ (file copy : List ℕ) (rule : ℕ) (j : Judged) (j-is : j ≡ judged_of file) where
  pub saved-none : (n : ℕ) → j.outcome ≡ Lost n → Resaves file copy rule (refused_with n) copy
  unfolding judged_of
  saved-none n o = let q = is_lost file (reading_of file) j n j-is o in
      record { answer_is = rw q; copy_is = rw q }

  pub saved-game : j.outcome ≡ Read → (answer : Written) (out : List ℕ)
      → SavesPacked file j.header j.board (first_events j.events file j.cursor) copy rule answer
      out → Resaves file copy rule answer out
  unfolding judged_of
  saved-game o answer out g =
      let w = is_judged file (reading_of file) j j-is o in
      let all : first_events j.events file j.cursor ≡ w.events =
      ap (λ (n : ℕ). first_events n file j.cursor) w.count_is
      ∙ ap (first_events (length w.events) file) w.cursor_is
      ∙ all-events (singly file j.header j.board w.events w.is) in
      record {
        answer_is = g.answer_is
            ∙ ap (λ (es : List Event). resaved_by rule file (game j.header j.board es) (length copy))
            all
            ∙ ap (λ (R : Reading). resaved_by rule file R (length copy)) (sym w.is);
        copy_is = g.copy_is
            ∙ ap (λ (es : List Event). resave_by rule file (game j.header j.board es) copy) all
            ∙ ap (λ (R : Reading). resave_by rule file R copy) (sym w.is);
      }
