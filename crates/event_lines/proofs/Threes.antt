-- Three columns in one write are those columns one by one. Assumes nothing.
use Prim.Native.Nat.{ℕ}
use mathlib.Core.Path.{◌≡◌}
use mathlib.Core.List.{List, ◌++◌, append_assoc}
use Rattle.lines.specs.Fields.{column}
use Rattle.event_lines.specs.Lines.{three_columns}

pub one_by_one : (s : List ℕ) (a b c : ℕ)
    → s ++ three_columns a b c ≡ s ++ column a ++ column b ++ column c
unfolding three_columns
one_by_one s a b c = simp append_assoc
