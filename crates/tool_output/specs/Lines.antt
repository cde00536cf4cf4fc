-- How the lines of a run begin. Definitions only.
use Rattle.std.specs.Prelude.{ℕ, Bool, true, false, List, [], ◌∷◌, ◌++◌}
use Rattle.lines.specs.Ascii.{ascii}
use Rattle.lines.specs.Fields.{tab}
use Rattle.name_lines.specs.Shown.{shown_name}

-- a message on standard error: what it is about
abbrev pub about_of : List ℕ → List ℕ
about_of what = ascii "evf: " ++ shown_name what ++ ascii ": "

-- the line of a file: its name, where there may be many
abbrev pub name_field : Bool → List ℕ → List ℕ
name_field true name = shown_name name ++ tab ∷ []
name_field false name = []
