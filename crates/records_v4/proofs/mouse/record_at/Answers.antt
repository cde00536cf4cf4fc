-- `records_v4::mouse::record_at` meets its contract. Assumes nothing.
use Prim.Native.Nat.{◌+◌}
use mathlib.Core.Path.{refl}
use native.Mathlib.Omega.{arith}
use Rattle.record_fields.proofs.Fixed.{two_bytes}
use Rattle.records_v4.proofs.MouseRecords.{reads_bytes}
use Rattle.records_v4.proofs.mouse.record_at.Goals as goal

pub returns : goal.returns
returns c =
    let file = c.args.file.now in
    let at = c.args.at in
    reads_bytes c.requires refl (omega (arith, c.type_inv.file (at + 1)))
    (two_bytes file (at + 2) c.u16_of.ensures (omega arith) (omega arith) (omega arith)) (omega arith)
    (two_bytes file (at + 4) c.u16_of-2.ensures (omega arith) (omega arith) (omega arith)) (omega arith)
