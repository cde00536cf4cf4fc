-- The line of a file, by how it was judged. Assumes nothing.
use Prim.Native.Nat.{ℕ}
use mathlib.Core.Path.{◌≡◌, sym, ap, ◌∙◌}
use mathlib.Core.Bool.{true, false}
use mathlib.Core.List.{List}
use Rattle.game.specs.declared.Header.{Header}
use Rattle.byte_writer.specs.Places.{Writes}
use Rattle.byte_writer.proofs.Laws.{writes_as}
use Rattle.evf_video.specs.declared.Judged.{Judged}
use Rattle.evf_video.specs.declared.Outcome.TheVariants.{Read, Refused}
use Rattle.evf_video.specs.Reading.{reading_of}
use Rattle.evf_video.specs.Judging.{start_of, judged_of}
use Rattle.evf_video.proofs.Judging.{is_game, is_none}
use Rattle.words.specs.Words.{refused_line}
use Rattle.tool_lines.specs.Lines.{read_line, line_of, checked_line, Checks}

-- the line by a header and the number of its events
abbrev line_from : Header → ℕ → List ℕ
line_from h events = read_line h.version h.height h.width h.mine_num events

module _ (file : List ℕ) (j : Judged) (e : j ≡ judged_of file) {d d' : List ℕ} {at to : ℕ} where
  pub checks-read : j.outcome ≡ Read → Writes d d' at (line_from j.header j.events) to
      → Checks file d d' at (record { to = to; is_read = true })
  unfolding judged_of checked_line
  checks-read o w = let g = is_game (start_of file) (reading_of file) j e o in
      record {
        line = writes_as (ap (line_from j.header) g.many ∙ sym (ap line_of g.is)) w;
        told = rw g.is;
      }

  pub checks-refused : (n : ℕ) → j.outcome ≡ Refused n → Writes d d' at (refused_line n) to
      → Checks file d d' at (record { to = to; is_read = false })
  unfolding judged_of checked_line
  checks-refused n o w = let g = is_none (start_of file) (reading_of file) j n e o in
      record { line = writes_as (rw g) w; told = rw g }
