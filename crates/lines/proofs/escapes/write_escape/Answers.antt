-- `lines::escapes::write_escape` meets its contract: the backslash twice, or four bytes. Assumes nothing.
use native.Mathlib.Omega.{arith}
use Rattle.byte_writer.proofs.Laws.{writes_then, writes_as}
use Rattle.lines.proofs.Escaping.{escape_self, escape_hex}
use Rattle.lines.proofs.escapes.write_escape.Goals as goal

pub returns-then-b-eq92 : goal.returns-then-b-eq92
returns-then-b-eq92 c =
    writes_as (escape_self _ c.if-b-eq92.true)
    c.write_bytes.ensures

pub returns : goal.returns
returns c =
    writes_as
    (escape_hex _ _ _ c.if-b-eq92.false (omega arith)
    c.hex_digit.ensures c.hex_digit-2.ensures)
    (writes_then (omega arith) c.write_bytes-end.ensures (λ l.
    writes_then l c.write_u8-end.ensures (λ l.
    c.write_u8.ensures)))
