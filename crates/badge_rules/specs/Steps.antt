-- What the steps of a judgement look at, for the contracts of the code; no contract of `badge` cites this. Any
-- cells are judged on, also those that no game comes to. Definitions only.
use Rattle.std.specs.Prelude.{ℕ, ◌*◌, Bool, not, ◌&&◌, List, eqb, ltb, length, get_or}
use Rattle.game.specs.declared.MouseKind.{MouseKind}
use Rattle.game.specs.declared.MouseKind.TheVariants.{Rc}
use Rattle.game.specs.Kinds.{code_of}
use Rattle.moves.specs.declared.Played.{Played}
use Rattle.moves.specs.declared.Played.TheVariants.{Undecided, Won, Lost, Refused as NotPlayed}
use Rattle.moves.specs.declared.Position.{Position}
use Rattle.moves.specs.Moves.{clicked_cell}
use Rattle.badge_rules.specs.declared.Award.{Award}
use Rattle.badge_rules.specs.declared.Award.TheVariants.{Judged, Refused}

-- a board without cells
abbrev pub no_board : Position
no_board = record { left = 0; height = 0; width = 0; pixels = 0; stands = Undecided }

abbrev pub is_rc : MouseKind → Bool
is_rc kind = eqb (code_of kind) (code_of Rc)

-- a click at a pixel acts on a cell of the board, and that is not uncovered: its entry is not 2
unfoldable pub falls_covered : List ℕ → Position → (x y : ℕ) → Bool
falls_covered cells p x y =
    ltb (clicked_cell p x y) (p.height * p.width)
    && (ltb (clicked_cell p x y) (length cells) && not (eqb (get_or cells (clicked_cell p x y) 0) 2))

-- the answer by how the game stands
abbrev pub award_by : Played → (earned claimed : Bool) → Award
award_by (NotPlayed n) earned claimed = Refused n
award_by Undecided earned claimed = Judged earned claimed
award_by Won earned claimed = Judged earned claimed
award_by Lost earned claimed = Judged earned claimed
