-- `byte_writer::write_decimal` meets its contract: two writes in a row. Assumes nothing.
use native.Mathlib.Omega.{arith}
use Rattle.text.specs.Decimals.{decimal_bytes}
use Rattle.byte_writer.proofs.Laws.{writes_put, writes_then}
use Rattle.byte_writer.proofs.write_decimal.Goals as goal

pub returns : goal.returns
returns c =
    let a = c.args in
    let put = c.put_decimal.ensures in
    let n = c.decimal_len.ensures in
    writes_then (omega arith)
    (writes_put (decimal_bytes a.n) put n c.advance-end.ensures)
    (λ l. c.write_u8.ensures)
