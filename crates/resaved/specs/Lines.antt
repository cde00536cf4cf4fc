-- The lines that `evf resave` prints for a file, but for its name and for those of a refusal. Fields are
-- parted by tabs. Definitions only.
use Rattle.std.specs.Prelude.{ℕ, ◌≡◌, Bool, false, cond, List, [], ◌∷◌, ◌++◌, ltb}
use Rattle.text.specs.Decimals.{decimal_bytes}
use Rattle.lines.specs.Ascii.{ascii}
use Rattle.lines.specs.Fields.{tab, newline}
use Rattle.byte_writer.specs.Places.{Writes}
use Rattle.evf_video.specs.Reading.{Reading, game, none, reading_of}
use Rattle.left_out.specs.declared.LeftOut.{LeftOut}
use Rattle.tool_lines.specs.Lines.{left_fields}
use Rattle.resaved.specs.declared.Older.{Older}

-- a copy of so many bytes: the mouse events and the custom metrics that it carries, the game states that it
-- does not, and what else
unfoldable pub resaved_line : (bytes : ℕ) → LeftOut → List ℕ
resaved_line bytes l =
    ascii "resaved"
    ++ tab ∷ decimal_bytes bytes ++ ascii " bytes"
    ++ tab ∷ decimal_bytes l.events ++ ascii " events"
    ++ tab ∷ decimal_bytes l.metrics ++ ascii " metrics"
    ++ tab ∷ decimal_bytes l.states ++ ascii " game states left out"
    ++ left_fields l
    ++ newline ∷ []

-- a replay that is for the upgrade
unfoldable pub older_line : (version : ℕ) → List ℕ
older_line version =
    ascii "older"
    ++ tab ∷ ascii "version " ++ decimal_bytes version ++ ascii ": evf upgrade writes it as version 4"
    ++ newline ∷ []

-- a file that is read, and of version 0 to 3
abbrev pub is_older : Reading → Bool
is_older (game h board es) = ltb h.version 4
is_older (none n) = false

-- its line; of any other nothing
abbrev pub sent_line : Reading → List ℕ
sent_line (game h board es) = cond (ltb h.version 4) (older_line h.version) []
sent_line (none n) = []

-- what `write_older` promises: the line into the buffer d from `at` on, which left d', and whether there is
-- one
pub record Sends (file d d' : List ℕ) (at : ℕ) (r : Older) : Type 0 where
  pub line : Writes d d' at (sent_line (reading_of file)) r.to
  pub told : r.is_older ≡ is_older (reading_of file)
