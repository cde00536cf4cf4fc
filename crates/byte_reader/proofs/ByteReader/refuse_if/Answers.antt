-- `ByteReader::refuse_if` meets its contract: by the cursor's case and the flag.
-- Assumes nothing.
use Rattle.byte_reader.specs.Cursor.{refused_if}
use Rattle.byte_reader.proofs.ByteReader.refuse_if.Goals as goal

pub returns-then-bad : goal.returns-then-bad
unfolding refused_if
returns-then-bad c = rw (c.in-At.is, c.if-bad.true)

pub returns-else-bad : goal.returns-else-bad
unfolding refused_if
returns-else-bad c = rw (c.in-At.is, c.if-bad.false)

pub returns-in-Refused : goal.returns-in-Refused
unfolding refused_if
returns-in-Refused c = rw c.in-Refused.is
