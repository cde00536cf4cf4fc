-- `header_v4::read_new` meets its contract: its fields in a row. The flag that the texts go by is the one
-- that the header tells. Assumes nothing.
use Rattle.byte_reader.proofs.Cursor.{gives_then, gives-read, gives-pure}
use Rattle.header_v4.specs.Front.{new_front}
use Rattle.header_v4.proofs.read_new.Goals as goal

pub returns : goal.returns
unfolding new_front
returns c =
    let e = c.mask-translated.ensures in
    rw e
    (gives_then _ c.read_flags-flags.ensures
    (gives_then _ c.read_sizes-sizes.ensures
    (gives_then _ (gives-read c.get_u32-time.ensures)
    (gives_then _ (gives-read c.get_utf8_string-country.ensures)
    (gives_then _ (gives-read c.get_u64-start.ensures)
    (gives_then _ (gives-read c.get_u64-end.ensures)
    (gives_then _ (rw e at c.read_new_texts-texts.ensures) gives-pure)))))))
