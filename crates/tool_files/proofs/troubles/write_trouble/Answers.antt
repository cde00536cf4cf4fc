-- `tool_files::troubles::write_trouble` meets its contract at the last trouble. Assumes nothing.
use Rattle.std.proofs.Common.{sym, ap}
use Rattle.byte_writer.proofs.Laws.{writes_as}
use Rattle.tool_files.specs.Troubles.{trouble_words}
use Rattle.tool_files.proofs.troubles.write_trouble.Goals as goal

pub returns-in-InTheWay : goal.returns-in-InTheWay
returns-in-InTheWay c = writes_as (sym (ap trouble_words c.in-InTheWay.is)) c.write_bytes-in-InTheWay.ensures
