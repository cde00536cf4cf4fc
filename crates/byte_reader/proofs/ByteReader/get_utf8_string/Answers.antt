-- `ByteReader::get_utf8_string` meets its contract: the two reads in a row, the first of which ends in the
-- file. Assumes nothing.
use native.Mathlib.Omega.{arith}
use Rattle.text.specs.Places.{absent}
use Rattle.byte_reader.specs.Fields.{bytes, must_be_utf8, utf8_bytes}
use Rattle.byte_reader.proofs.Cursor.{reads_then}
use Rattle.byte_reader.proofs.Laws.{bytes-only, reads_only}
use Rattle.byte_reader.proofs.ByteReader.get_utf8_string.Goals as goal

pub must_be_utf8-requires : goal.must_be_utf8-requires
must_be_utf8-requires c = let a = c.args in
    (reads_only a.file.now (omega arith, omega arith) (bytes-only a.file.now a.n)
    c.get_buffer.ensures).0

pub returns : goal.returns
unfolding utf8_bytes
returns c = let a = c.args in
    reads_then absent (bytes a.n) must_be_utf8 a.file.now c.get_buffer.ensures
    c.must_be_utf8.ensures
