-- `tool_files::troubles::write_taken` meets its contract, by whether the bytes are the same. Assumes nothing.
use Rattle.std.proofs.Common.{sym, ap}
use Rattle.byte_writer.proofs.Laws.{writes_as}
use Rattle.tool_files.specs.Troubles.{taken_line}
use Rattle.tool_files.proofs.troubles.write_taken.Goals as goal

pub returns-then-is_same : goal.returns-then-is_same
returns-then-is_same c = writes_as (sym (ap taken_line c.if-is_same.true)) c.write_bytes.ensures

pub returns : goal.returns
returns c = writes_as (sym (ap taken_line c.if-is_same.false)) c.write_bytes-2.ensures
