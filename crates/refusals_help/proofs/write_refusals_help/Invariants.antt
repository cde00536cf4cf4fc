-- `refusals_help::write_refusals_help` meets its contract: the refusals below n were written. Assumes nothing.
use Prim.Native.Nat.{◌-◌}
use Rattle.byte_writer.specs.Places.{Writes}
use Rattle.refusals_help.specs.Help.{help_lines_to}
use Rattle.refusals_help.proofs.write_refusals_help.Given as goal

abbrev pub invariant-loop-n : goal.invariant-loop-n
invariant-loop-n l = Writes l.initial.out l.out l.at (help_lines_to (l.n - 1)) l.end
