-- `header_v4::read_new_texts` meets its contract: its fields in a row.
-- Assumes nothing.
use Rattle.byte_reader.proofs.Cursor.{gives_then, gives-read, gives-pure}
use Rattle.header_v4.specs.Front.{new_texts}
use Rattle.header_v4.proofs.read_new_texts.Goals as goal

pub returns : goal.returns
unfolding new_texts
returns c =
    gives_then _ (gives-read c.get_utf8_c_string-software.ensures)
    (gives_then _ c.read_translation-two.ensures
    (gives_then _ (gives-read c.get_utf8_c_string-player.ensures)
    (gives_then _ (gives-read c.get_utf8_c_string-race.ensures)
    (gives_then _ (gives-read c.get_utf8_c_string-id.ensures)
    (gives_then _ (gives-read c.get_counted-device.ensures) gives-pure)))))
