-- From the parts to what is promised of a file and of its line. Assumes nothing.
--     recount-game, recount-none              what was judged, recounted
--     counts_line_lem                             the counts as their writer puts them together
--     recounts-same, -differs, -refused       the three lines
use Prim.Native.Nat.{ℕ}
use mathlib.Core.Path.{◌≡◌, sym, ap, ◌∙◌}
use mathlib.Core.List.{List, [], ◌∷◌, ◌++◌, append_assoc}
use borrow.Author.Tests.{eq-eqb, ne_eqb}
use Rattle.text.specs.Decimals.{decimal_bytes}
use Rattle.lines.specs.Ascii.{ascii}
use Rattle.byte_writer.specs.Places.{Writes}
use Rattle.byte_writer.proofs.Laws.{writes_as}
use Rattle.evf_video.specs.declared.Judged.{Judged}
use Rattle.evf_video.specs.declared.Outcome.TheVariants.{Read, Refused as Unread}
use Rattle.evf_video.specs.Reading.{reading_of}
use Rattle.evf_video.specs.Judging.{start_of, judged_of}
use Rattle.evf_video.proofs.Judging.{is_game, is_none}
use Rattle.words.specs.Words.{refused_line}
use Rattle.recounted.specs.declared.FileRecount.{FileRecount}
use Rattle.recounted.specs.declared.FileRecount.TheVariants.{Counts, Refused}
use Rattle.tally.specs.declared.Fate.TheVariants.{Done, Differs, Refused as Lost}
use Rattle.recounted.specs.Recounting.{game_recount, recount_by, file_recount}
use Rattle.recounted.specs.Lines.{counts_line, recounted_line, Recounts}

-- A FILE, by how it was judged
module _ (file : List ℕ) (j : Judged) (e : j ≡ judged_of file) where
  pub recount-game : {r : FileRecount} → j.outcome ≡ Read → r ≡ game_recount file j.header j.board
      → r ≡ file_recount file
  unfolding judged_of file_recount
  recount-game o q = q ∙ ap (recount_by file) (sym (is_game (start_of file) (reading_of file) j e o).is)

  pub recount-none : (n : ℕ) → j.outcome ≡ Unread n → Refused n ≡ file_recount file
  unfolding judged_of file_recount
  recount-none n o = ap (recount_by file) (sym (is_none (start_of file) (reading_of file) j n e o))

-- A LINE
pub counts_line_lem : (claimed counted openings : ℕ) (word : List ℕ)
    → (ascii "recounted" ++ 9 ∷ ascii "3BV ")
    ++ ((decimal_bytes claimed ++ (ascii " in the header" ++ 9 ∷ ascii "3BV "))
    ++ ((decimal_bytes counted ++ (ascii " recounted" ++ 9 ∷ []))
    ++ ((decimal_bytes openings ++ (ascii " openings" ++ 9 ∷ [])) ++ (word ++ 10 ∷ []))))
    ≡ counts_line claimed counted openings word
unfolding counts_line
counts_line_lem claimed counted openings word = simp append_assoc

module _ (file : List ℕ) (r : FileRecount) (e : r ≡ file_recount file) {d d' : List ℕ} {at to : ℕ} where
  module _ (claimed counted openings : ℕ) (is : r ≡ Counts claimed counted openings) where
    pub recounts-same : claimed ≡ counted
        → Writes d d' at (counts_line claimed counted openings (ascii "same")) to
        → Recounts file d d' at (record { to = to; fate = Done })
    unfolding recounted_line
    recounts-same q w =
        let f = sym e ∙ is in
        record { line = writes_as (rw (f, eq-eqb _ _ q)) w; fate_is = rw (f, eq-eqb _ _ q) }

    pub recounts-differs : (claimed ≡ counted → ⊥)
        → Writes d d' at (counts_line claimed counted openings (ascii "differs")) to
        → Recounts file d d' at (record { to = to; fate = Differs })
    unfolding recounted_line
    recounts-differs q w =
        let f = sym e ∙ is in
        record { line = writes_as (rw (f, ne_eqb _ _ q)) w; fate_is = rw (f, ne_eqb _ _ q) }

  pub recounts-refused : (n : ℕ) → r ≡ Refused n → Writes d d' at (refused_line n) to
      → Recounts file d d' at (record { to = to; fate = Lost })
  unfolding recounted_line
  recounts-refused n is w =
      let f = sym e ∙ is in
      record { line = writes_as (rw f) w; fate_is = rw f }
