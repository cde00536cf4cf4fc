-- `EventCursor::open` meets its contract: by the cursor behind the header.
-- Assumes nothing.
use Rattle.std.proofs.Common.{ap, ◌∙◌}
use Rattle.evf_events.specs.declared.Start.TheVariants.{At}
use Rattle.byte_reader.proofs.Cursor.{read_at, read-not}
use Rattle.evf_events.proofs.Opened.{opened, not_opened}
use Rattle.evf_events.proofs.EventCursor.open.Goals as goal

pub returns-in-At : goal.returns-in-At
returns-in-At c =
    ap At c.at_first.ensures ∙ opened c.args.file.now _ _
    (read_at c.read_opening-o.ensures _ c.in-At.is)

pub returns-in-Refused : goal.returns-in-Refused
returns-in-Refused c =
    not_opened c.args.file.now _
    (read-not c.read_opening-o.ensures _ c.in-Refused.is)
