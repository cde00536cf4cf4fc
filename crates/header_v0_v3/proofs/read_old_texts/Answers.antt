-- `header_v0_v3::read_old_texts` meets its contract: its texts in a row.
-- Assumes nothing.
use Rattle.byte_reader.proofs.Cursor.{gives_then, gives-read, gives-pure}
use Rattle.header_v0_v3.specs.Front.{old_texts}
use Rattle.header_v0_v3.proofs.read_old_texts.Goals as goal

pub returns : goal.returns
unfolding old_texts
returns c =
    gives_then _ (gives-read c.get_utf8_c_string-software.ensures)
    (gives_then _ (gives-read c.get_c_buffer-player.ensures)
    (gives_then _ (gives-read c.get_c_buffer-race.ensures)
    (gives_then _ (gives-read c.get_c_buffer-id.ensures)
    (gives_then _ (gives-read c.get_utf8_c_string-start.ensures)
    (gives_then _ (gives-read c.get_utf8_c_string-end.ensures) gives-pure)))))
