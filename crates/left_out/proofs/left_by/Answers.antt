-- `left_out::left_by` meets its contract: by what the scan saw, and by what the checksum gave.
-- Assumes nothing.
use Rattle.left_out.proofs.Left.{left-whole, left_open, left-broken}
use Rattle.evf_video.proofs.Judging.{saw, saw_none}
use Rattle.byte_reader.proofs.Cursor.{read_at, read-not}
use mathlib.Core.Path.{◌∙◌}
use Rattle.left_out.proofs.left_by.Goals as goal

pub returns-in-At : goal.returns-in-At
returns-in-At c =
    let a = c.args in
    left-whole a.file.now a.header _ _ _ _
    (saw a.file.now _ _ _ c.at_first-from.ensures c.scan_events.ensures c.in-All.is)
    _ _ (read_at c.read_checksum.ensures _ c.in-At.is)
    c.at_first-from.ensures c.left_at.ensures

pub returns-in-Refused-next : goal.returns-in-Refused-next
returns-in-Refused-next c =
    let a = c.args in
    c.none_left.ensures
    ∙ left_open a.file.now a.header _ _ _ _
    (saw a.file.now _ _ _ c.at_first-from.ensures c.scan_events.ensures c.in-All.is)
    _ (read-not c.read_checksum.ensures _ c.in-Refused-next.is)

pub returns-in-Refused : goal.returns-in-Refused
returns-in-Refused c =
    let a = c.args in
    c.none_left-in-Refused.ensures
    ∙ left-broken a.file.now a.header _ _
    (saw_none a.file.now _ _ _ c.at_first-from.ensures c.scan_events.ensures
    c.in-Refused.is)
