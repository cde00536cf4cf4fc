-- From each entry on the row comes to the same. Assumes nothing.
use Rattle.std.proofs.Common.{◌≡◌, drop}
use mathlib.Core.List.{foldl}
use Rattle.moves.specs.Moves.{moved_by}
use Rattle.playing.proofs.play_row.Given as goal

abbrev pub invariant-loop-event : goal.invariant-loop-event
invariant-loop-event l =
    foldl (moved_by l.board) (l.p, l.cells) (drop l.event-index l.row)
    ≡ foldl (moved_by l.board) (l.fn.from, l.initial.cells) l.row
