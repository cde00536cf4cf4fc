-- `text::utf8::is_class` meets its contract: past the end there is no byte, and a byte's class is read off
-- the table. Assumes nothing.
use Prim.Native.Nat.{◌<◌}
use lib.ListN.{get_or}
use borrow.Author.Tests.{le-leb, lt-leb}
use Rattle.text.specs.Classes.{in_classes}
use Rattle.text.proofs.Classes.{in_table, starts-at}
use Rattle.text.proofs.utf8.is_class.Goals as goal

pub returns-then-low-class : goal.returns-then-low-class
returns-then-low-class c =
    let a = c.args in
    let small : get_or a.s.now a.i 0 < 256 = (c.type_inv.s a.i).fits in
    rw (
      starts-at (in_classes a.low a.high) a.s.now a.i c.if-s-i.false,
      ← in_table _ c.requires _ small,
      le-leb _ _ c.if-low-class.true,
    )

pub returns-else-low-class : goal.returns-else-low-class
returns-else-low-class c =
    let a = c.args in
    let small : get_or a.s.now a.i 0 < 256 = (c.type_inv.s a.i).fits in
    rw (
      starts-at (in_classes a.low a.high) a.s.now a.i c.if-s-i.false,
      ← in_table _ c.requires _ small,
      lt-leb _ _ c.if-low-class.false,
    )
