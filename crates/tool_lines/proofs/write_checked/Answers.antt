-- `tool_lines::write_checked` meets its contract: by how the file was judged. Assumes nothing.
use Rattle.tool_lines.proofs.Checking.{checks-read, checks-refused}
use Rattle.tool_lines.proofs.write_checked.Goals as goal

pub returns-in-Read : goal.returns-in-Read
returns-in-Read c =
    checks-read c.args.file.now _ c.judge-j.ensures c.in-Read.is
    c.write_read.ensures

pub returns-in-Refused : goal.returns-in-Refused
returns-in-Refused c =
    checks-refused c.args.file.now _ c.judge-j.ensures _
    c.in-Refused.is c.write_refusal.ensures
