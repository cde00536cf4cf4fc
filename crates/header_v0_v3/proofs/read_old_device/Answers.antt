-- `header_v0_v3::read_old_device` meets its contract: the version decides whether there is one.
-- Assumes nothing.
use borrow.Author.Tests.{lt-leb, le-leb}
use Rattle.byte_reader.proofs.Cursor.{gives-read, gives-pure}
use Rattle.header_v0_v3.specs.Front.{old_device}
use Rattle.header_v0_v3.proofs.read_old_device.Goals as goal

pub returns-then-version-lt2 : goal.returns-then-version-lt2
unfolding old_device
returns-then-version-lt2 c = rw (lt-leb _ _ c.if-version-lt2.true) gives-pure

pub returns : goal.returns
unfolding old_device
returns c = rw (le-leb _ _ c.if-version-lt2.false) (gives-read c.get_c_buffer.ensures)
