-- `play_passes::old::pass_old` meets its contract: a record at a time. Assumes nothing.
use Rattle.std.proofs.Common.{◌≡◌, ◌-◌, length}
use Rattle.play_passes.proofs.OldCodes.{Goes}
use Rattle.play_passes.proofs.old.pass_old.Given as goal

abbrev pub invariant-loop : goal.invariant-loop
invariant-loop g l =
    Goes (g.P.Pass.after l.board) l.file (l.initial.p, l.initial.cells) l.initial.at l.most (l.p, l.cells) l.at (l.most - l.counter) × (length l.cells ≡ length l.initial.cells)
