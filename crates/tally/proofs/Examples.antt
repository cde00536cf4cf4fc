-- The line of 3000 files, of some that differ and of one. Assumes nothing.
use mathlib.Core.Path.{◌≡◌, refl}
use mathlib.Core.List.{[], ◌∷◌, ◌++◌}
use Rattle.text.specs.Decimals.{decimal_bytes}
use Rattle.lines.specs.Ascii.{ascii}
use Rattle.lines.specs.Fields.{newline}
use Rattle.tally.specs.Counts.{made, tally_line}

many : tally_line (made 3000 2990 0 8 2) ≡ ascii "3000 files: 2990 done, 8 refused, 2 failed" ++ newline ∷ []
unfolding decimal_bytes
many = refl

differing : tally_line (made 3000 2987 3 8 2)
    ≡ ascii "3000 files: 2987 done, 3 differ, 8 refused, 2 failed" ++ newline ∷ []
unfolding decimal_bytes
differing = refl

single : tally_line (made 1 1 0 0 0) ≡ ascii "1 file: 1 done, 0 refused, 0 failed" ++ newline ∷ []
unfolding decimal_bytes
single = refl
