-- `framing::read_parts` meets its contract: its fields in a row.
-- Assumes nothing.
use Rattle.byte_reader.proofs.Cursor.{gives_then, gives-read, gives-pure}
use Rattle.framing.specs.Frames.{frame}
use Rattle.framing.proofs.read_parts.Goals as goal

pub returns : goal.returns
unfolding frame
returns c =
    gives_then _ (gives-read c.get_u32-first.ensures)
    (gives_then _ (gives-read c.get_u8-unit.ensures)
    (gives_then _ (gives-read c.get_u32-times.ensures)
    (gives_then _ (gives-read c.get_u32-last.ensures)
    (gives_then _ (gives-read c.get_buffer-p.ensures)
    (gives_then _ (gives-read c.get_buffer-u.ensures)
    (gives_then _ (gives-read c.get_buffer-q.ensures) gives-pure))))))
