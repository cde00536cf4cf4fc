-- `header_v4::read_translation` meets its contract: two texts in a row, or none.
-- Assumes nothing.
use Rattle.byte_reader.proofs.Cursor.{gives_then, gives-read, gives-pure}
use Rattle.header_v4.specs.Front.{translation, both_texts}
use Rattle.header_v4.proofs.read_translation.Goals as goal

pub returns-then-translated : goal.returns-then-translated
unfolding translation both_texts
returns-then-translated c =
    rw c.if-translated.true
    (gives_then _ (gives-read c.get_utf8_c_string-software.ensures)
    (gives_then _ (gives-read c.get_utf8_c_string-encoding.ensures) gives-pure))

pub returns : goal.returns
unfolding translation
returns c = rw c.if-translated.false gives-pure
