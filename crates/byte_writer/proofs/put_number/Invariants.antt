-- `byte_writer::put_number` meets its contract. The invariant: from place i on the last k - i bytes are
-- stored, and `rest` is what is left. Assumes nothing.
use Rattle.byte_writer.proofs.Stored.{Put}
use Rattle.byte_writer.proofs.put_number.Given as goal

abbrev pub invariant-loop-i : goal.invariant-loop-i
invariant-loop-i l = Put l.initial.out l.at l.k l.v l.out l.rest l.i
