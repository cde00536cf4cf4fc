-- Each turn takes a step and its event. Assumes nothing.
use Rattle.std.proofs.Common.{◌≡◌, length}
use mathlib.Core.List.{foldl}
use Rattle.evf_events.specs.Events.{first_events}
use Rattle.play_passes.proofs.pass_steps.Given as goal

abbrev pub invariant-loop-left : goal.invariant-loop-left
invariant-loop-left g l =
    (foldl (g.P.Pass.after l.board) (l.p, l.cells) (first_events l.left l.file l.c)
    ≡ foldl (g.P.Pass.after l.board) (l.initial.p, l.initial.cells) (first_events l.most l.file l.initial.c))
    × (length l.cells ≡ length l.initial.cells)

abbrev pub decreases-loop-left : goal.decreases-loop-left
decreases-loop-left g l = l.left
