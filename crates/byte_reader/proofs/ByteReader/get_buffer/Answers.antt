-- `ByteReader::get_buffer` meets its contract: by the cursor's case and whether the file has the bytes.
-- Assumes nothing.
use native.Mathlib.Omega.{arith}
use Rattle.text.specs.Places.{absent}
use Rattle.byte_reader.specs.Fields.{bytes}
use Rattle.byte_reader.proofs.Fields.{bytes-short, bytes_whole}
use Rattle.byte_reader.proofs.Cursor.{read-value, read-refused, refused-before}
use Rattle.byte_reader.proofs.ByteReader.get_buffer.Goals as goal

pub returns-then-file-at : goal.returns-then-file-at
returns-then-file-at c =
    let a = c.args in
    rw c.no_place.ensures
    (read-refused absent (bytes a.n) _ _ _ 1 c.in-At.is
    (bytes-short a.n _ _ (omega arith)))

pub returns-then-file-at-2 : goal.returns-then-file-at-2
returns-then-file-at-2 c =
    let a = c.args in
    rw c.no_place-then-file-at-2.ensures
    (read-refused absent (bytes a.n) _ _ _ 1 c.in-At.is
    (bytes-short a.n _ _ (omega arith)))

pub returns-else-file-at-2 : goal.returns-else-file-at-2
returns-else-file-at-2 c =
    let a = c.args in
    read-value absent (bytes a.n) _ _ _ _ _ c.in-At.is
    (bytes_whole a.n _ _ (omega arith))

pub returns-in-Refused : goal.returns-in-Refused
returns-in-Refused c =
    let a = c.args in
    rw c.no_place-in-Refused.ensures
    (refused-before absent (bytes a.n) _ _ _ c.in-Refused.is)
