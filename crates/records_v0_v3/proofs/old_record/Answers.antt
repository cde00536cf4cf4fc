-- `records_v0_v3::old_record` meets its contract: each return knows of the code and of the bytes left what
-- the record asks. Assumes nothing.
use native.Mathlib.Omega.{arith}
use Prim.Native.Nat.{◌+◌}
use Rattle.record_fields.proofs.Fixed.{two_bytes, three-bytes}
use Rattle.records_v0_v3.proofs.Records.{old-end, old-stop, old-stop-255, old-mouse, old-cut}
use Rattle.records_v0_v3.proofs.Records.{old_found}
use Rattle.records_v0_v3.proofs.old_record.Goals as goal

pub returns-then-file-at : goal.returns-then-file-at
returns-then-file-at c = record { means = old-end _ _ _ (omega arith) }

pub returns-then-code-eq-END_AND_CHECKSUM : goal.returns-then-code-eq-END_AND_CHECKSUM
returns-then-code-eq-END_AND_CHECKSUM c =
    record { means = record { is = old-stop _ _ _ (omega arith) c.if-code-eq-END_AND_CHECKSUM.true; inside = omega arith } }

pub returns-then-code : goal.returns-then-code
returns-then-code c =
    record {
      means =
          record {
            is = old-stop-255 _ _ _ (omega arith) c.if-code-eq-END_AND_CHECKSUM.false c.if-code.true;
            inside = omega arith;
          };
    }

pub returns-then-file-at-lt8 : goal.returns-then-file-at-lt8
returns-then-file-at-lt8 c =
    record {
      means = old-cut _ _ _ (omega arith) c.if-code-eq-END_AND_CHECKSUM.false c.if-code.false
          (omega arith);
    }

pub returns : goal.returns
returns c =
    let a = c.args in
    let file = a.file.now in
    let at = a.at in
    old_found
    (old-mouse file at a.version (omega arith) c.if-code-eq-END_AND_CHECKSUM.false c.if-code.false
    (omega arith)) c.kind_in.ensures
    (three-bytes file (at + 1) c.u24_of.ensures (omega arith) (omega arith) (omega arith) (omega arith))
    (two_bytes file (at + 4) c.u16_of.ensures (omega arith) (omega arith) (omega arith))
    (two_bytes file (at + 6) c.u16_of-2.ensures (omega arith) (omega arith) (omega arith)) (omega arith)
    (omega arith)
