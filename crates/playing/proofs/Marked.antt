-- M3's game is lost, and leaves 2, 0: the definitions compute. Assumes nothing.
use mathlib.Core.Path.{◌≡◌, refl}
use mathlib.Core.List.{[], ◌∷◌}
use Rattle.board.specs.Geometry.{beside, near, crossing, neighbours, number, mine_at}
use Rattle.flood.specs.Spread.{round, rounds, reached}
use Rattle.flood.specs.Flood.{is_zero}
use Rattle.game.specs.Sizes.{sizes_bad, cells_short}
use Rattle.buttons.specs.Chords.{is_down, chord_at, has_chord}
use Rattle.moves.specs.declared.Played.TheVariants.{Lost}
use Rattle.machine.specs.Machine.{opened, uncovering, judged, played}
use Rattle.moves.specs.Clicks.{is_on, cell_under}
use Rattle.playing.specs.Play.{play_of, cells_left}
use Rattle.playing.specs.Marked.{m3_sizes, m3_board, m3_row}

pub lost : play_of m3_sizes 16 m3_board m3_row (9 ∷ 9 ∷ 9 ∷ []) ≡ Lost
unfolding beside near crossing neighbours number mine_at round rounds reached is_zero sizes_bad cells_short
    is_down chord_at has_chord is_on cell_under opened uncovering judged played play_of
lost = refl

pub left : cells_left m3_sizes 16 m3_board m3_row (9 ∷ 9 ∷ 9 ∷ []) ≡ 2 ∷ 0 ∷ 9 ∷ []
unfolding beside near crossing neighbours number mine_at round rounds reached is_zero sizes_bad cells_short
    is_down chord_at has_chord is_on cell_under opened uncovering judged played cells_left
left = refl
