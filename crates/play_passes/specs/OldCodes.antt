-- What the functions of `old` promise: the records of versions 0 to 3 by their codes. Definitions only.
use Rattle.std.specs.Prelude.{ℕ, ◌+◌, Bool, cond, not, ◌||◌, List, length, ◌==◌, nat_le, slice_index}
use Rattle.game.specs.declared.MouseKind.TheVariants.{Lr, Rc, Pf}
use Rattle.game.specs.Kinds.{code_of}
use Rattle.records_v0_v3.specs.Records.{end_alone}

-- the code of the whole record at a place, 0 where none stands there
unfoldable pub old_code : List ℕ → (at : ℕ) → ℕ
old_code file at =
    cond (nat_le (at + 8) (length file)) (cond (slice_index file at == end_alone) 0 (slice_index file at)) 0

-- the codes of events that do nothing to a board: all but lr, rc and pf
unfoldable pub is_idle : (code : ℕ) → Bool
is_idle code = not (code == code_of Lr || (code == code_of Rc || code == code_of Pf))
