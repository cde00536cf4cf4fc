-- `tool_output::begin_line` meets its contract where there may be many files. Assumes nothing.
use native.Mathlib.Omega.{arith}
use Rattle.std.proofs.Common.{sym, ap}
use Rattle.byte_writer.proofs.Laws.{writes_as, writes_then}
use Rattle.tool_output.specs.Lines.{name_field}
use Rattle.tool_output.proofs.begin_line.Goals as goal

pub returns-then-run : goal.returns-then-run
returns-then-run c =
    writes_as (sym (ap (λ b. name_field b c.args.name.now) c.if-run.true))
    (writes_then (omega arith) c.write_shown-at.ensures (λ l. c.write_u8.ensures))
