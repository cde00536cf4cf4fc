-- A file's openings and 3BV, counted anew from its mines, beside the 3BV that its header claims (02, note 2).
-- Definitions only.
use Rattle.std.specs.Prelude.{ℕ, List}
use Rattle.text.specs.declared.Place.{Place}
use Rattle.game.specs.declared.Header.{Header}
use Rattle.evf_video.specs.Reading.{Reading, game, none, reading_of, cells_at}
use Rattle.openings.specs.declared.Recount.{Recount}
use Rattle.openings.specs.declared.Recount.TheVariants.{Counts as Counted, Refused as NotCounted}
use Rattle.openings.specs.Recount.{recount_of}
use Rattle.recounted.specs.declared.FileRecount.{FileRecount}
use Rattle.recounted.specs.declared.FileRecount.TheVariants.{Counts, Refused}

-- the cells of the largest board, 255 by 255, for which there is room
abbrev pub most_cells : ℕ
most_cells = 65025

-- what a header claims, beside what was counted
abbrev pub beside_claim : Header → Recount → FileRecount
beside_claim h (Counted openings bbbv) = Counts h.bbbv bbbv openings
beside_claim h (NotCounted n) = Refused n

-- a game whose packed board stands at a place of its file
unfoldable pub game_recount : List ℕ → Header → (board : Place) → FileRecount
game_recount file h board =
    beside_claim h (recount_of h.height h.width (cells_at file h board) most_cells)

-- what a file is read as; a refusal keeps its number
abbrev pub recount_by : List ℕ → Reading → FileRecount
recount_by file (game h board es) = game_recount file h board
recount_by file (none n) = Refused n

-- a file
unfoldable pub file_recount : List ℕ → FileRecount
file_recount file = recount_by file (reading_of file)
