-- The line that `evf recount` prints for a file, but for its name. Fields are parted by tabs. Definitions
-- only.
use Rattle.std.specs.Prelude.{ℕ, ◌≡◌, cond, List, [], ◌∷◌, ◌++◌, eqb}
use Rattle.text.specs.Decimals.{decimal_bytes}
use Rattle.lines.specs.Ascii.{ascii}
use Rattle.lines.specs.Fields.{tab, newline}
use Rattle.byte_writer.specs.Places.{Writes}
use Rattle.words.specs.Words.{refused_line}
use Rattle.tally.specs.declared.Fate.{Fate}
use Rattle.tally.specs.declared.Fate.TheVariants.{Done, Differs, Refused as Lost}
use Rattle.recounted.specs.declared.FileRecount.{FileRecount}
use Rattle.recounted.specs.declared.FileRecount.TheVariants.{Counts, Refused}
use Rattle.recounted.specs.declared.RecountedLine.{RecountedLine}
use Rattle.recounted.specs.Recounting.{file_recount}

-- the counts of a file and a word on them
unfoldable pub counts_line : (claimed counted openings : ℕ) → (word : List ℕ) → List ℕ
counts_line claimed counted openings word =
    ascii "recounted"
    ++ tab ∷ ascii "3BV " ++ decimal_bytes claimed ++ ascii " in the header"
    ++ tab ∷ ascii "3BV " ++ decimal_bytes counted ++ ascii " recounted"
    ++ tab ∷ decimal_bytes openings ++ ascii " openings"
    ++ tab ∷ word
    ++ newline ∷ []

-- whether the header's 3BV is the one that was counted
abbrev pub word_of : (claimed counted : ℕ) → List ℕ
word_of claimed counted = cond (eqb claimed counted) (ascii "same") (ascii "differs")

-- what became of the file
abbrev pub fate_of : FileRecount → Fate
fate_of (Counts claimed counted openings) = cond (eqb claimed counted) Done Differs
fate_of (Refused n) = Lost

-- both counts of the 3BV, or a refusal
abbrev pub line_of : FileRecount → List ℕ
line_of (Counts claimed counted openings) = counts_line claimed counted openings (word_of claimed counted)
line_of (Refused n) = refused_line n

-- the line of a file
unfoldable pub recounted_line : List ℕ → List ℕ
recounted_line file = line_of (file_recount file)

-- what `write_recounted` promises: the line into the buffer d from `at` on, which left d', and what it says
pub record Recounts (file d d' : List ℕ) (at : ℕ) (r : RecountedLine) : Type 0 where
  pub line : Writes d d' at (recounted_line file) r.to
  pub fate_is : r.fate ≡ fate_of (file_recount file)
