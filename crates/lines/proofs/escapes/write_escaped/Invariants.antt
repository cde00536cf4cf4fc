-- `lines::escapes::write_escaped` meets its contract. Assumes nothing.
use Rattle.lines.proofs.Escaping.{Escaping}
use Rattle.lines.proofs.escapes.write_escaped.Given as goal

abbrev pub invariant-loop-i : goal.invariant-loop-i
invariant-loop-i l = Escaping l.initial.out l.at l.text l.out l.to l.left l.i
