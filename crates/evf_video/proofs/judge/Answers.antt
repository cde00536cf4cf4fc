-- `evf_video::judge` meets its contract: by the cursor behind the header.
-- Assumes nothing.
use mathlib.Core.Path.{◌∙◌}
use Rattle.byte_reader.proofs.Cursor.{read_at, read-not}
use Rattle.evf_video.proofs.Judging.{judged-opened, judged-refused}
use Rattle.evf_video.proofs.judge.Goals as goal

pub returns-in-At : goal.returns-in-At
returns-in-At c =
    c.judge_events.ensures ∙ judged-opened c.args.file.now _ _
    (read_at c.read_opening-o.ensures _ c.in-At.is)

pub returns-in-Refused : goal.returns-in-Refused
returns-in-Refused c =
    c.unread.ensures ∙ judged-refused c.args.file.now _
    (read-not c.read_opening-o.ensures _ c.in-Refused.is)
