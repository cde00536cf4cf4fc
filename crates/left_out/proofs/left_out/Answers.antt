-- `left_out::left_out` meets its contract: by the cursor behind the header. Assumes nothing.
use Rattle.left_out.proofs.Left.{left-read, left_none}
use Rattle.byte_reader.proofs.Cursor.{read_at, read-not}
use mathlib.Core.Path.{◌∙◌}
use Rattle.left_out.proofs.left_out.Goals as goal

pub returns-in-At : goal.returns-in-At
returns-in-At c =
    c.left_by.ensures ∙ left-read c.args.file.now _ _
    (read_at c.read_opening-opening.ensures _ c.in-At.is)

pub returns-in-Refused : goal.returns-in-Refused
returns-in-Refused c =
    c.none_left.ensures ∙ left_none c.args.file.now _
    (read-not c.read_opening-opening.ensures _ c.in-Refused.is)
