-- `play_passes::later::pass_run` meets its contract. The invariant: from here the pass comes to the same as
-- from the start. Assumes nothing.
use Rattle.std.proofs.Common.{◌≡◌, ◌-◌, length}
use Rattle.play_passes.specs.Runs.{PassesRun}
use Rattle.play_passes.proofs.later.pass_run.Given as goal

abbrev pub invariant-loop-taken : goal.invariant-loop-taken
invariant-loop-taken g l =
    PassesRun (g.P.Pass.after l.board) l.file l.initial.c l.most (l.initial.p, l.initial.cells) l.c (l.most - l.taken) (l.p, l.cells) × (length l.cells ≡ length l.initial.cells)
