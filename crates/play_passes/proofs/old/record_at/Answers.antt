-- `play_passes::old::record_at` meets its contract: an idle code does nothing, and of another the pixel is
-- read. Assumes nothing.
use Rattle.std.proofs.Common.{◌+◌, refl, arith}
use Rattle.record_fields.proofs.Fixed.{two_bytes}
use Rattle.play_passes.proofs.old.record_at.Goals as goal

pub returns-then-is_idle : goal.returns-then-is_idle
returns-then-is_idle g c =
    let a = c.args in
    (λ version t. c.is_idle.ensures c.if-is_idle.true a.board.now (a.p, a.cells.now) version t _ _, refl)

pub returns : goal.returns
returns g c =
    let file = c.args.file.now in
    let at = c.args.at in
    let x-is = two_bytes file (at + 4) c.u16_of-x.ensures (omega arith) (omega arith)
    (omega (arith, c.requires)) in
    let y-is = two_bytes file (at + 6) c.u16_of-y.ensures (omega arith) (omega arith)
    (omega (arith, c.requires)) in
    rw (← x-is, ← y-is) c.click.ensures
