-- `name_lines::write_path` meets its contract: writes in a row. Assumes nothing.
use mathlib.Core.Path.{sym, ◌∙◌}
use native.Mathlib.Omega.{arith}
use Rattle.byte_writer.proofs.Laws.{writes_as, writes_then}
use Rattle.name_lines.proofs.write_path.Goals as goal

pub returns-then-ends_in_slash : goal.returns-then-ends_in_slash
returns-then-ends_in_slash c =
    let ends = sym c.ends_in_slash.ensures ∙ c.if-ends_in_slash.true in
    writes_as (rw ends)
    (writes_then (omega arith) c.write_bytes-end.ensures
    (λ l. c.write_bytes.ensures))

pub returns : goal.returns
returns c =
    let none = sym c.ends_in_slash.ensures ∙ c.if-ends_in_slash.false in
    writes_as (rw none)
    (writes_then (omega arith) c.write_bytes-end.ensures
    (λ l. writes_then l c.write_u8-behind.ensures (λ m. c.write_bytes-2.ensures)))
