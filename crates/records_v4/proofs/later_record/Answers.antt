-- `records_v4::later_record` meets its contract: each return knows of the code and of the bytes left what the
-- record asks. Assumes nothing.
use native.Mathlib.Omega.{arith}
use Prim.Native.Nat.{◌+◌}
use mathlib.Core.Path.{sym}
use Rattle.record_fields.proofs.Fixed.{field-1, two_bytes}
use Rattle.records_v4.proofs.Records.{later-end, later-stop, later-mouse, later-mouse-cut, mouse-found}
use Rattle.records_v4.proofs.later_record.Goals as goal

pub returns-then-file-at : goal.returns-then-file-at
returns-then-file-at c = record { means = later-end _ _ (omega arith) }

pub returns-then-code-eq-END : goal.returns-then-code-eq-END
returns-then-code-eq-END c = record { means = later-stop _ _ (omega arith) (omega arith) }

pub returns-then-file-at-lt6 : goal.returns-then-file-at-lt6
returns-then-file-at-lt6 c =
    record { means = later-mouse-cut _ _ (omega arith) c.if-code-eq-END.false (omega arith) (omega arith) }

pub returns : goal.returns
returns c =
    let a = c.args in
    let file = a.file.now in
    let at = a.at in
    mouse-found (later-mouse file at (omega arith) c.if-code-eq-END.false (omega arith) (omega arith))
    c.from.ensures (sym (field-1 file (at + 1) (omega arith)))
    (two_bytes file (at + 2) c.u16_of.ensures (omega arith) (omega arith) (omega arith))
    (two_bytes file (at + 4) c.u16_of-2.ensures (omega arith) (omega arith) (omega arith))
