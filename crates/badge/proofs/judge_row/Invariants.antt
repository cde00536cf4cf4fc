-- From each entry on the row comes to the same. Assumes nothing.
use Rattle.std.proofs.Common.{◌≡◌, drop}
use mathlib.Core.List.{foldl}
use Rattle.badge.specs.Judging.{judged_by}
use Rattle.badge.proofs.judge_row.Given as goal

abbrev pub invariant-loop-event : goal.invariant-loop-event
invariant-loop-event l =
    foldl (judged_by l.board) (l.s, l.cells) (drop l.event-index l.row)
    ≡ foldl (judged_by l.board) (l.fn.from, l.initial.cells) l.row
