-- `refusals_help::write_help_line` meets its contract: seven writes in a row. Assumes nothing.
use Prim.Native.Nat.{◌≤◌}
use mathlib.Core.Path.{refl}
use lib.ListN.{length}
use native.Mathlib.Omega.{arith}
use Rattle.byte_writer.specs.Places.{most}
use Rattle.byte_writer.proofs.Laws.{writes_as, writes_then}
use Rattle.refusals_help.proofs.write_help_line.Goals as goal

pub returns : goal.returns
returns c =
    let room : length c.args.out.now ≤ most = omega (arith, c.well_formed.0.0) in
    let a = writes_then room c.write_indent-end.ensures (λ l. c.write_number-end.ensures) in
    let b = writes_then room a (λ l. c.write_bytes-end.ensures) in
    let d = writes_then room b (λ l. c.write_words-end.ensures) in
    let e = writes_then room d (λ l. c.write_bytes-end-2.ensures) in
    let f = writes_then room e (λ l. c.write_advice-end.ensures) in
    writes_as refl (writes_then room f (λ l. c.write_u8.ensures))
