-- `left_out::read_words` meets its contract: its fields in a row. Assumes nothing.
use Rattle.left_out.specs.LeftOut.{words_in}
use Rattle.byte_reader.proofs.Cursor.{gives_then, gives-read}
use Rattle.left_out.proofs.read_words.Goals as goal

pub returns : goal.returns
unfolding words_in
returns c =
    gives_then _ (gives-read c.get_u8-version.ensures)
    (gives_then _ c.read_flags-flags.ensures
    (gives_then _ c.read_sizes-sizes.ensures
    (gives_then _ (gives-read c.get_u24-time.ensures) c.read_old_texts.ensures)))
