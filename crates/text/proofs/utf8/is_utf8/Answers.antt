-- `text::utf8::is_utf8` meets its contract; the table's 256 entries, each computed, are the classes of 00 to
-- FF. Assumes nothing.
use mathlib.Core.Path.{refl, sym, ap, ◌∙◌}
use native.Mathlib.Omega.{arith}
use Rattle.std.proofs.Common.{rules, drop}
use lib.ListN.{length-drop}
use lib.Seq.{take_all}
use Rattle.text.specs.Classes.{class_of, table}
use Rattle.text.specs.Utf8.{utf8}
use Rattle.text.proofs.Chars.{told_none, told_some, end_is}
use Rattle.text.proofs.utf8.is_utf8.Goals as goal

pub utf8_char-requires : goal.utf8_char-requires
unfolding table class_of
utf8_char-requires c = (refl, search rules)

pub returns-in_default : goal.returns-in_default
returns-in_default c =
    sym (c.loop-rest.invariant ∙ told_none _ (search rules) (sym c.in_default.is ∙ c.utf8_char.ensures))

pub slice_bounds-rest-count : goal.slice_bounds-rest-count
slice_bounds-rest-count c = (told_some _ _ (search rules) (sym c.in-Some.is ∙ c.utf8_char.ensures)).1

pub slice_bounds-rest-start : goal.slice_bounds-rest-start
slice_bounds-rest-start c = (told_some _ _ (search rules) (sym c.in-Some.is ∙ c.utf8_char.ensures)).1

pub loop-rest-preserved : goal.loop-rest-preserved
loop-rest-preserved c =
    let w = told_some _ _ (search rules) (sym c.in-Some.is ∙ c.utf8_char.ensures) in
    c.loop-rest.invariant ∙ w.2 ∙ sym (ap utf8 (take_all _ (drop c.in-Some.n c.loop-rest.rest.now) (simp length-drop (omega arith))))

pub returns : goal.returns
unfolding utf8
returns c = sym (c.loop-rest.invariant ∙ end_is c.loop-rest.rest.now (search rules))
