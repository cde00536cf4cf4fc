-- `byte_reader::must_be_utf8` meets its contract: the part of the file that is tested is the bytes at the
-- place. Assumes nothing.
use mathlib.Core.Path.{◌≡◌, sym, ◌∙◌}
use Prim.Native.Nat.{◌+◌, ◌-◌}
use native.Mathlib.Omega.{arith}
use Rattle.text.specs.Places.{absent, bytes_at}
use Rattle.text.specs.Utf8.{utf8}
use Rattle.byte_reader.proofs.Cursor.{refused-before}
use Rattle.byte_reader.proofs.Fields.{utf8-good, utf8-bad}
use Rattle.byte_reader.proofs.must_be_utf8.Goals as goal

pub returns-then-is_utf8 : goal.returns-then-is_utf8
returns-then-is_utf8 c =
    let tested : let a = c.args in c.is_utf8.result ≡ utf8 (bytes_at a.file.now a.r.value) = let a = c.args in let e : a.r.value.start + a.r.value.len - a.r.value.start ≡ a.r.value.len = omega arith in rw e at c.is_utf8.ensures in
    utf8-good _ _ _ _ c.in-At.is
    (sym tested ∙ c.if-is_utf8.true)

pub returns-else-is_utf8 : goal.returns-else-is_utf8
returns-else-is_utf8 c =
    let tested : let a = c.args in c.is_utf8.result ≡ utf8 (bytes_at a.file.now a.r.value) = let a = c.args in let e : a.r.value.start + a.r.value.len - a.r.value.start ≡ a.r.value.len = omega arith in rw e at c.is_utf8.ensures in
    rw c.no_place.ensures
    (utf8-bad _ _ _ _ c.in-At.is
    (sym tested ∙ c.if-is_utf8.false))

pub returns-in-Refused : goal.returns-in-Refused
returns-in-Refused c = rw c.no_place-in-Refused.ensures (refused-before absent _ _ _ _ c.in-Refused.is)
