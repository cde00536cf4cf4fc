-- `forms::write_filled` meets its contract: byte by byte of the form. Assumes nothing.
use Rattle.forms.proofs.Filling.{Filling}
use Rattle.forms.proofs.write_filled.Given as goal

abbrev pub invariant-loop-b : goal.invariant-loop-b
invariant-loop-b l = Filling l.h l.file l.initial.out l.at l.form l.values l.out l.to l.k l.b-index
