-- The lines that `evf check` and `evf upgrade` print for a file, but for its name. Fields are parted by tabs.
-- Definitions only.
use Rattle.std.specs.Prelude.{ℕ, ◌≡◌, Bool, true, false, cond, List, [], ◌∷◌, ◌++◌, ltb, length}
use Rattle.text.specs.Decimals.{decimal_bytes}
use Rattle.lines.specs.Ascii.{ascii}
use Rattle.lines.specs.Fields.{tab, newline}
use Rattle.byte_writer.specs.Places.{Writes}
use Rattle.evf_video.specs.Reading.{Reading, game, none, reading_of}
use Rattle.words.specs.Words.{refused_line}
use Rattle.left_out.specs.declared.LeftOut.{LeftOut}
use Rattle.tool_lines.specs.declared.Checked.{Checked}

-- CHECK

-- a file that is read
unfoldable pub read_line : (version height width mines events : ℕ) → List ℕ
read_line version height width mines events =
    ascii "read"
    ++ tab ∷ ascii "version " ++ decimal_bytes version
    ++ tab ∷ decimal_bytes height ++ ascii " rows, " ++ decimal_bytes width ++ ascii " columns, "
    ++ decimal_bytes mines ++ ascii " mines"
    ++ tab ∷ decimal_bytes events ++ ascii " events"
    ++ newline ∷ []

-- a game with its events, or a refusal
abbrev pub line_of : Reading → List ℕ
line_of (game h board es) = read_line h.version h.height h.width h.mine_num (length es)
line_of (none n) = refused_line n

-- the line of a file, read or refused
unfoldable pub checked_line : List ℕ → List ℕ
checked_line file = line_of (reading_of file)

-- a file is read, and not refused
abbrev pub is_read : Reading → Bool
is_read (game h board es) = true
is_read (none n) = false

-- what `write_checked` promises: the line into the buffer d from `at` on, which left d', and whether the file
-- is read
pub record Checks (file d d' : List ℕ) (at : ℕ) (r : Checked) : Type 0 where
  pub line : Writes d d' at (checked_line file) r.to
  pub told : r.is_read ≡ is_read (reading_of file)

-- UPGRADE

-- a field that only some lines have
abbrev pub field_if : Bool → List ℕ → List ℕ
field_if has field = cond has field []

-- what the copy does not carry
abbrev pub not_carried : List ℕ → List ℕ
not_carried what = tab ∷ ascii "not carried: " ++ what

-- all of it but the game states, of which the upgrade's files have none
unfoldable pub left_fields : LeftOut → List ℕ
left_fields l =
    field_if l.country (not_carried (ascii "the country, now XX"))
    ++ field_if l.moments (not_carried (ascii "start and end, now 0"))
    ++ field_if (ltb 0 l.behind) (not_carried (decimal_bytes l.behind ++ ascii " bytes behind the end"))

-- a copy of so many bytes and events
unfoldable pub upgraded_line : (bytes events : ℕ) → LeftOut → List ℕ
upgraded_line bytes events l =
    ascii "upgraded"
    ++ tab ∷ decimal_bytes bytes ++ ascii " bytes"
    ++ tab ∷ decimal_bytes events ++ ascii " events"
    ++ left_fields l
    ++ newline ∷ []
