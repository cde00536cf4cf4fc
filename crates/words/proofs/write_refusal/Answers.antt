-- `words::write_refusal` meets its contract: five writes in a row. Assumes nothing.
use Prim.Native.Nat.{◌≤◌}
use mathlib.Core.Path.{refl}
use lib.ListN.{length}
use native.Mathlib.Omega.{arith}
use Rattle.byte_writer.specs.Places.{most}
use Rattle.byte_writer.proofs.Laws.{writes_as, writes_then}
use Rattle.words.proofs.write_refusal.Goals as goal

pub returns : goal.returns
returns c =
    let room : length c.args.out.now ≤ most = omega arith in
    let a = writes_then room c.write_bytes-end.ensures (λ l. c.write_column-end.ensures) in
    let b = writes_then room a (λ l. c.write_u8-end.ensures) in
    let d = writes_then room b (λ l. c.write_words-end.ensures) in
    writes_as refl (writes_then room d (λ l. c.write_u8.ensures))
