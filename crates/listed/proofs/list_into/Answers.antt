-- `listed::list_into` meets its contract: the line `long`, or the lines of the file. Assumes nothing.
use Rattle.byte_writer.proofs.Laws.{writes_as}
use Rattle.listed.specs.Listed.{long_line}
use Rattle.listed.proofs.Lines.{of_long, of_short}
use Rattle.listed.proofs.list_into.Goals as goal

pub returns-then-file-gt-MOST_BYTES : goal.returns-then-file-gt-MOST_BYTES
unfolding long_line
returns-then-file-gt-MOST_BYTES c =
    writes_as (of_long _ c.if-file-gt-MOST_BYTES.true) c.write_bytes.ensures

pub returns : goal.returns
returns c =
    writes_as (of_short _ c.if-file-gt-MOST_BYTES.false) c.write_lines.ensures
