-- `header_fields::read_flags` meets its contract: by the version, one byte or two in a row.
-- Assumes nothing.
use borrow.Author.Tests.{lt-leb, le-leb}
use Rattle.byte_reader.proofs.Cursor.{gives_then, gives-read, gives-pure}
use Rattle.header_fields.specs.Fields.{flags}
use Rattle.header_fields.proofs.read_flags.Goals as goal

pub returns-then-version-lt3 : goal.returns-then-version-lt3
unfolding flags
returns-then-version-lt3 c = rw (lt-leb _ _ c.if-version-lt3.true)
    (gives_then _ (gives-read c.get_u8-first.ensures) (gives_then _ gives-pure gives-pure))

pub returns : goal.returns
unfolding flags
returns c = rw (le-leb _ _ c.if-version-lt3.false)
    (gives_then _ (gives-read c.get_u8-first.ensures)
    (gives_then _ (gives-read c.get_u8-second.ensures) gives-pure))
