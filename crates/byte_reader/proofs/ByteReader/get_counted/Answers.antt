-- `ByteReader::get_counted` meets its contract: the two reads in a row.
-- Assumes nothing.
use Rattle.byte_reader.specs.Numbers.{number}
use Rattle.byte_reader.specs.Fields.{bytes, counted_bytes}
use Rattle.byte_reader.proofs.Cursor.{reads_then}
use Rattle.byte_reader.proofs.ByteReader.get_counted.Goals as goal

pub returns : goal.returns
unfolding counted_bytes
returns c = reads_then 0 (number 2) bytes c.args.file.now
    c.get_u16-n.ensures c.get_buffer.ensures
