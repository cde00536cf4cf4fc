-- M3 of 01 as a game: a mine, and a cell beside it that says 1; lc and lr on the mine. Definitions only.
use Rattle.std.specs.Prelude.{List, [], ◌∷◌, ℤ, pos, negsuc}
use Rattle.times.specs.Times.{seconds_of}
use Rattle.game.specs.declared.Event.{Event}
use Rattle.game.specs.declared.Event.TheVariants.{Mouse}
use Rattle.game.specs.declared.MouseKind.TheVariants.{Lc, Lr}
use Rattle.playing.specs.declared.Sizes.{Sizes}

abbrev pub m3_sizes : Sizes
m3_sizes = record { height = 1; width = 2 }

abbrev pub m3_board : List ℤ
m3_board = negsuc 0 ∷ pos 1 ∷ []

abbrev pub m3_row : List Event
m3_row = Mouse (seconds_of 5) Lc 8 8 ∷ Mouse (seconds_of 300) Lr 7 8 ∷ []
