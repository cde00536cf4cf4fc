-- `header_fields::read_sizes` meets its contract: its numbers in a row.
-- Assumes nothing.
use Rattle.byte_reader.proofs.Cursor.{gives_then, gives-read, gives-pure}
use Rattle.header_fields.specs.Fields.{sizes}
use Rattle.header_fields.proofs.read_sizes.Goals as goal

pub returns : goal.returns
unfolding sizes
returns c =
    gives_then _ (gives-read c.get_u8-height.ensures)
    (gives_then _ (gives-read c.get_u8-width.ensures)
    (gives_then _ (gives-read c.get_u16-mines.ensures)
    (gives_then _ (gives-read c.get_u8-pixels.ensures)
    (gives_then _ (gives-read c.get_u16-mode.ensures)
    (gives_then _ (gives-read c.get_u16-bbbv.ensures) gives-pure)))))
