-- What `evf` tells of a file that could not be read or made. Definitions only.
use Rattle.std.specs.Prelude.{ℕ, Bool, true, false, List, [], ◌∷◌, ◌++◌}
use Rattle.lines.specs.Ascii.{ascii}
use Rattle.lines.specs.Fields.{tab, newline}
use Rattle.errors.specs.Errors.{error_words}
use Rattle.tool_files.specs.declared.troubles.Trouble.{Trouble}
use Rattle.tool_files.specs.declared.troubles.Trouble.TheVariants.{System, Long, CopyLong, InTheWay}

-- one sentence each; an error of the system has its own words
abbrev pub trouble_words : Trouble → List ℕ
trouble_words (System error) = error_words error
trouble_words Long = ascii "longer than 2097152 bytes"
trouble_words CopyLong = ascii "the copy would be too long"
trouble_words InTheWay = ascii "a .part file of other bytes is in the way: remove it"

-- the line of a file that could not be read or made, behind its name
abbrev pub failed_line : Trouble → List ℕ
failed_line t = ascii "failed" ++ tab ∷ [] ++ trouble_words t ++ newline ∷ []

-- the line of a copy whose name is taken: by these very bytes, or by another file
abbrev pub taken_line : Bool → List ℕ
taken_line true = ascii "taken" ++ tab ∷ [] ++ ascii "this copy is there already" ++ newline ∷ []
taken_line false =
    ascii "taken" ++ tab ∷ []
    ++ ascii "another file has this name and stays as it is: name another or move it away" ++ newline ∷ []
