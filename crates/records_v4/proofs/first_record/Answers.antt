-- `records_v4::first_record` meets its contract: each return knows of the code and of the bytes left what the
-- record asks. Assumes nothing.
use native.Mathlib.Omega.{arith}
use Prim.Native.Nat.{◌+◌}
use mathlib.Core.Path.{sym}
use Rattle.record_fields.proofs.Fixed.{field-1, two_bytes}
use Rattle.records_v4.proofs.Records.{first_code_is, first-end, first-unknown, first-mouse, first-cut}
use Rattle.records_v4.proofs.Records.{first_found}
use Rattle.records_v4.proofs.first_record.Goals as goal

pub returns-then-file-at : goal.returns-then-file-at
returns-then-file-at c = record { means = first-end _ _ (omega arith) }

pub returns-then-not-may_begin : goal.returns-then-not-may_begin
returns-then-not-may_begin c =
    record {
      means = first-unknown _ _ (omega arith)
          (first_code_is _ c.from-kind.ensures c.may_begin.ensures
          c.if-not-may_begin.true);
    }

pub returns-then-file-at-lt6 : goal.returns-then-file-at-lt6
returns-then-file-at-lt6 c =
    record {
      means = first-cut _ _ (omega arith)
          (first_code_is _ c.from-kind.ensures c.may_begin.ensures
          c.if-not-may_begin.false) (omega arith);
    }

pub returns : goal.returns
returns c =
    let a = c.args in
    let file = a.file.now in
    let at = a.at in
    first_found
    (first-mouse file at (omega arith)
    (first_code_is _ c.from-kind.ensures c.may_begin.ensures
    c.if-not-may_begin.false) (omega arith)) c.from-kind.ensures
    (sym (field-1 file (at + 1) (omega arith)))
    (two_bytes file (at + 2) c.u16_of.ensures (omega arith) (omega arith) (omega arith))
    (two_bytes file (at + 4) c.u16_of-2.ensures (omega arith) (omega arith) (omega arith)) (omega arith)
    (omega (arith, c.type_inv.file (at + 1)))
