-- Sizes of a board that no file can say, and a board that has too few cells for its sizes (01, Refusals 15
-- and 17), over numbers; and what a call refuses that works on a board (02, note 2). Definitions only.
use Rattle.std.specs.Prelude.{ℕ, ◌*◌, Bool, ◌||◌, List, [], ◌∷◌, eqb, ltb}
use Rattle.game.specs.Limits.{largest_u8}
use Rattle.game.specs.Refusals.{size_unwritable, board_short, work_short}
use Rattle.game.specs.Checks.{Check, ◌when◌}

-- 15: no row, or a size that is no byte; a width of 0 can be said
unfoldable pub sizes_bad : (height width : ℕ) → Bool
sizes_bad height width = eqb height 0 || (ltb largest_u8 height || ltb largest_u8 width)

-- 17: fewer than height × width cells
unfoldable pub cells_short : (height width cells : ℕ) → Bool
cells_short height width cells = ltb cells (height * width)

-- what a call refuses that works on so many lent cells in so many lent entries, in checking order (02, note
-- 2)
abbrev pub work_checks : (height width cells entries : ℕ) → List Check
work_checks height width cells entries =
    (size_unwritable when sizes_bad height width) ∷
    (board_short when cells_short height width cells) ∷
    (work_short when cells_short height width entries) ∷ []
