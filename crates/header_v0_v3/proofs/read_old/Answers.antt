-- `header_v0_v3::read_old` meets its contract: its fields in a row. The bytes that decide on the translation
-- are the software's. Assumes nothing.
use Rattle.byte_reader.proofs.Cursor.{gives_then, gives-read, gives-pure}
use Rattle.header_v0_v3.specs.Front.{old_front}
use Rattle.header_fields.proofs.Contents.{gives_contents}
use Rattle.header_v0_v3.proofs.read_old.Goals as goal

pub returns : goal.returns
unfolding old_front
returns c =
    let e = rw c.part.ensures at c.begins_yuan.ensures in
    rw (c.old_texts.ensures, e)
    (gives_then _ c.read_flags-flags.ensures
    (gives_then _ c.read_sizes-sizes.ensures
    (gives_then _ (gives-read c.get_u24-time.ensures)
    (gives_then _ c.read_old_texts-words.ensures
    (gives_then _ c.read_old_times-span.ensures
    (gives_then _ (gives-read c.get_c_buffer-country.ensures)
    (gives_then _ c.read_old_device-device.ensures
    (gives_then _ (gives_contents _ _) gives-pure))))))))
