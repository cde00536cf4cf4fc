-- `evf_video::judge_events` meets its contract: by what the scan saw, and by what the checksum gave.
-- Assumes nothing.
use mathlib.Core.Path.{◌∙◌}
use Rattle.byte_reader.proofs.Cursor.{read_at, read-not}
use Rattle.evf_video.proofs.Judging.{saw, saw_none, judged-broken, judged-open, judged-whole}
use Rattle.evf_video.proofs.judge_events.Goals as goal

pub returns-in-At : goal.returns-in-At
returns-in-At c =
    let a = c.args in
    rw (c.with_checksum.ensures, c.at_first-cursor.ensures)
    (judged-whole a.file.now _ (record { header = a.header; board = a.board }) _ _ _ _
    (saw a.file.now _ _ _ c.at_first-cursor.ensures
    c.scan_events.ensures c.in-All.is)
    _ _ (read_at c.read_checksum-sum.ensures _ c.in-At.is))

pub returns-in-Refused-next : goal.returns-in-Refused-next
returns-in-Refused-next c =
    let a = c.args in
    c.unread.ensures
    ∙ judged-open a.file.now _ (record { header = a.header; board = a.board }) _ _ _ _
    (saw a.file.now _ _ _ c.at_first-cursor.ensures
    c.scan_events.ensures c.in-All.is)
    _ (read-not c.read_checksum-sum.ensures _ c.in-Refused-next.is)

pub returns-in-Refused : goal.returns-in-Refused
returns-in-Refused c =
    let a = c.args in
    c.unread-in-Refused.ensures ∙ judged-broken a.file.now _ _ _ _
    (saw_none a.file.now _ _ _ c.at_first-cursor.ensures c.scan_events.ensures
    c.in-Refused.is)
