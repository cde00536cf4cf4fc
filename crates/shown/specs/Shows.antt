-- What `write_shown` promises of its answer and of each byte and cell that it is lent. Definitions only.
use Rattle.std.specs.Prelude.{ℕ, ◌≤◌, ◌≡◌, List, ℤ}
use Rattle.byte_writer.specs.Places.{Writes}
use Rattle.evf_video.specs.Reading.{reading_of, number_of}
use Rattle.evf_video.specs.Parsed.{board_then}
use Rattle.shown.specs.declared.Shown.{Shown}
use Rattle.shown.specs.Shown.{shown_of}

-- no file is shown in more bytes
abbrev pub most_shown : ℕ
most_shown = 131072

-- the number of the refusal, 0 where the file is read; what is shown, in the first bytes of the buffer d, and
-- the place behind it; and the cells in the board b
pub record Shows (file : List ℕ) (b b' : List ℤ) (d d' : List ℕ) (r : Shown) : Type 0 where
  pub refused_is : r.refused ≡ number_of (reading_of file)
  pub writes : Writes d d' 0 (shown_of file) r.to
  pub small : r.to ≤ most_shown
  pub board_is : b' ≡ board_then file (reading_of file) b
