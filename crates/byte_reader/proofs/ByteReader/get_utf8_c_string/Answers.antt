-- `ByteReader::get_utf8_c_string` meets its contract: the two reads in a row, the first of which ends in the
-- file. Assumes nothing.
use mathlib.Core.Path.{refl}
use borrow.Author.Rules.{rules}
use Rattle.text.specs.Places.{absent}
use Rattle.byte_reader.specs.Fields.{text, must_be_utf8, utf8_text}
use Rattle.byte_reader.proofs.Cursor.{reads_then}
use Rattle.byte_reader.proofs.Laws.{text-only, reads_only}
use Rattle.byte_reader.proofs.ByteReader.get_utf8_c_string.Goals as goal

pub must_be_utf8-requires : goal.must_be_utf8-requires
must_be_utf8-requires c = let a = c.args in
    (reads_only a.file.now (search rules, refl) (text-only a.file.now) c.get_c_buffer.ensures).0

pub returns : goal.returns
unfolding utf8_text
returns c = let a = c.args in
    reads_then absent text must_be_utf8 a.file.now c.get_c_buffer.ensures
    c.must_be_utf8.ensures
