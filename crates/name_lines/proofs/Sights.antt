-- Bytes as they are shown, by the tests of the code. Assumes nothing.
use Prim.Native.Nat.{ℕ, ◌+◌, ◌<◌}
use mathlib.Core.Path.{◌≡◌}
use mathlib.Core.List.{List}
use lib.ListN.{length, get_or, take, set, length-map, get_or-map}
use lib.Seq.{sets}
use Rattle.lists.proofs.Stores.{sets-take}
use Rattle.name_lines.specs.Shown.{shown_byte, shown_name}

-- one byte more
pub shown-more : (d : List ℕ) (at i : ℕ) (name : List ℕ) → i < length name
    → set (sets d at (take i (shown_name name))) (at + i) (shown_byte (get_or name i 0))
    ≡ sets d at (take (i + 1) (shown_name name))
shown-more d at i name l =
    rw (← get_or-map shown_byte name i 0)
    (sets-take d at i (shown_name name) 63 (rw (length-map name shown_byte) l))
