-- `text::utf8::utf8_1` meets its contract: class 0 is the rule's range, which antt computes over all bytes.
-- Assumes nothing.
use Rattle.text.specs.Utf8.{◌to◌, within, utf8_1}
use Rattle.text.specs.Classes.{class_of}
use Rattle.text.proofs.Classes.{is-lead, no_lead}
use Rattle.text.proofs.Lines.{by_lines_lem}
use Rattle.text.proofs.utf8.utf8_1.Goals as goal

pub returns-then-first-eq-ASCII : goal.returns-then-first-eq-ASCII
unfolding class_of
returns-then-first-eq-ASCII c =
    rw (by_lines_lem utf8_1 _, is-lead c.requires (within (0x00 to 0x7F)) c.if-first-eq-ASCII.true tt)

pub returns : goal.returns
unfolding class_of
returns c =
    rw (by_lines_lem utf8_1 _, no_lead c.requires (within (0x00 to 0x7F)) c.if-first-eq-ASCII.false tt)
