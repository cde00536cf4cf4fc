-- What the definitions say of inputs that one can check by eye. Assumes nothing.
use mathlib.Core.Path.{◌≡◌, refl}
use mathlib.Core.Bool.{true, false}
use mathlib.Core.List.{[], ◌∷◌, ◌++◌}
use Rattle.lines.specs.Ascii.{ascii}
use Rattle.lines.specs.Fields.{newline}
use Rattle.name_lines.specs.NameLines.{names_of, told_names}
use Rattle.name_lines.specs.Paths.{last_part, path_of, ends_in_slash}
use Rattle.name_lines.specs.Shown.{shown_name}

-- two names with an empty line between, the last with no newline
two_names : names_of (ascii "a.evf" ++ newline ∷ newline ∷ ascii "b") ≡ ascii "a.evf" ∷ ascii "b" ∷ []
two_names = refl

-- with a newline at the end there is no third
two_lines : names_of (ascii "a" ++ newline ∷ ascii "b" ++ newline ∷ []) ≡ ascii "a" ∷ ascii "b" ∷ []
two_lines = refl

no_names : names_of (newline ∷ newline ∷ []) ≡ []
no_names = refl

-- in a buffer of three bytes
cut_name : told_names 3 (ascii "abcd" ++ newline ∷ ascii "efg")
    ≡ record { bytes = ascii "abc"; long = true } ∷ record { bytes = ascii "efg"; long = false } ∷ []
cut_name = refl

part_of : last_part (ascii "games/2024/a.evf") ≡ ascii "a.evf"
unfolding last_part
part_of = refl

part_of_folder : last_part (ascii "games/") ≡ []
unfolding last_part
part_of_folder = refl

in_folder : path_of (ascii "new") (ascii "a.evf") ≡ ascii "new/a.evf"
unfolding ends_in_slash
in_folder = refl

in_folder_with_slash : path_of (ascii "new/") (ascii "a.evf") ≡ ascii "new/a.evf"
unfolding ends_in_slash
in_folder_with_slash = refl

tab-shown : shown_name (97 ∷ 9 ∷ 127 ∷ 98 ∷ 255 ∷ []) ≡ 97 ∷ 63 ∷ 63 ∷ 98 ∷ 255 ∷ []
tab-shown = refl
