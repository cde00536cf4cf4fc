-- `ByteReader::get_c_buffer` meets its contract: by the cursor's case and where the text ends.
-- Assumes nothing.
use mathlib.Core.Path.{sym, ◌∙◌}
use native.Mathlib.Omega.{arith}
use Rattle.text.specs.Places.{absent}
use Rattle.text.proofs.Ends.{Ended, end_is}
use Rattle.byte_reader.specs.Fields.{text}
use Rattle.byte_reader.proofs.Fields.{text-found, text-open}
use Rattle.byte_reader.proofs.Cursor.{read-value, read-refused, refused-before}
use Rattle.byte_reader.proofs.ByteReader.get_c_buffer.Goals as goal

pub overflow_sub-result : goal.overflow_sub-result
overflow_sub-result c =
    let ends : Ended c.args.file.now c.in-At.at c.in-Some.end = end_is _ _ _ (sym c.text_end.ensures ∙ c.in-Some.is) in
    ends.after

pub overflow_add-result : goal.overflow_add-result
overflow_add-result c =
    let ends : Ended c.args.file.now c.in-At.at c.in-Some.end = end_is _ _ _ (sym c.text_end.ensures ∙ c.in-Some.is) in
    let e = ends in omega (arith, e.inside)

pub returns-in-Some : goal.returns-in-Some
returns-in-Some c = read-value absent text _ _ _ _ _ c.in-At.is
    (text-found _ _ _ (sym c.text_end.ensures ∙ c.in-Some.is))

pub returns-in-None : goal.returns-in-None
returns-in-None c =
    let none = text-open _ _
    (sym c.text_end.ensures ∙ c.in-None.is) in
    rw c.no_place.ensures
    (read-refused absent text _ _ _ 1 c.in-At.is none)

pub returns-in-Refused : goal.returns-in-Refused
returns-in-Refused c = rw c.no_place-in-Refused.ensures
    (refused-before absent text _ _ _ c.in-Refused.is)
