-- The bytes that a game is written as (01, Header, Board, "Version 4 writer and upgrade", "Version 3
-- writer"). Definitions only.
use Rattle.std.specs.Prelude.{ℕ, cond, List, ◌++◌, eqb, Float}
use Rattle.game.specs.Same.{Game}
use Rattle.mouse_records.specs.Records.{nothing_yet, row_bytes}
use Rattle.layout_v3.specs.Version3.{front3, tail3}
use Rattle.layout_v4.specs.Version4.{front4, tail4}

abbrev pub front_of : (version : ℕ) → Game → List ℕ
front_of version g = cond (eqb version 4) (front4 g) (front3 g)

abbrev pub tail_of : (version : ℕ) → Game → List ℕ
tail_of version g = cond (eqb version 4) (tail4 g) (tail3 g)

-- the whole file, by how seconds become milliseconds
abbrev pub file_of : (toMs : Float → ℕ) → (version : ℕ) → Game → List ℕ
file_of toMs version g =
    front_of version g ++ (row_bytes toMs version nothing_yet g.events ++ tail_of version g)
