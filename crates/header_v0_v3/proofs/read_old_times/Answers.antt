-- `header_v0_v3::read_old_times` meets its contract: the three texts are looked into where they lie, and
-- `times_of` judges them. Assumes nothing.
use mathlib.Core.Path.{◌≡◌, sym, ◌∙◌}
use mathlib.Core.List.{List}
use Prim.Native.Nat.{ℕ}
use Rattle.text.specs.Places.{bytes_at}
use Rattle.times.specs.declared.GameMs.{GameMs}
use Rattle.byte_reader.specs.declared.ByteReader.{ByteReader}
use Rattle.byte_reader.specs.Cursor.{Gives}
use Rattle.byte_reader.proofs.Cursor.{gives_then, gives-pure, gives-no}
use Rattle.header_v0_v3.specs.declared.OldTexts.{OldTexts}
use Rattle.header_fields.specs.declared.Span.{Span}
use Rattle.header_software.specs.declared.Times.{Times}
use Rattle.header_software.specs.Software.{times_of}
use Rattle.header_v0_v3.specs.Front.{known, old_times}
use Rattle.header_fields.proofs.Contents.{gives_contents}
use Rattle.header_v0_v3.proofs.read_old_times.Goals as goal

-- what the texts of this file say
abbrev told : List ℕ → OldTexts → GameMs → Times
told file words time =
    times_of (bytes_at file words.software) (bytes_at file words.start) (bytes_at file words.end) time

-- whatever that gives from a cursor, the reading gives
looked-at : {file : List ℕ} (words : OldTexts) (time : GameMs) {c : ByteReader} {span : Span} {n : ByteReader}
    → Gives (known (told file words time)) file c span n → Gives (old_times words time) file c span n
unfolding old_times
looked-at words time g =
    gives_then _ (gives_contents _ _)
    (gives_then _ (gives_contents _ _) (gives_then _ (gives_contents _ _) g))

pub returns-in-Known : goal.returns-in-Known
returns-in-Known c =
    let judged : let a = c.args in c.times_of.result ≡ told a.file.now a.words a.time = rw (c.part.ensures, c.part-2.ensures, c.part-3.ensures) at c.times_of.ensures in
    let t = sym judged ∙ c.in-Known.is in
    looked-at _ _ (rw t gives-pure)

pub returns-in-Refused : goal.returns-in-Refused
returns-in-Refused c =
    let judged : let a = c.args in c.times_of.result ≡ told a.file.now a.words a.time = rw (c.part.ensures, c.part-2.ensures, c.part-3.ensures) at c.times_of.ensures in
    let t = sym judged ∙ c.in-Refused.is in
    rw c.refuse_if.ensures (looked-at _ _ (rw t (gives-no _ _ _)))
