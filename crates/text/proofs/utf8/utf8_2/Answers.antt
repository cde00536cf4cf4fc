-- `text::utf8::utf8_2` meets its contract: class 4 is the range of its first byte, which antt computes over
-- all bytes. Assumes nothing.
use mathlib.Core.Path.{◌≡◌, sym, ◌∙◌}
use mathlib.Core.Bool.{Bool, false}
use mathlib.Core.List.{List, [], ◌∷◌}
use Prim.Native.Nat.{ℕ}
use Rattle.text.specs.Utf8.{◌to◌, within, tail, utf8_2}
use Rattle.text.specs.Classes.{class_of}
use Rattle.text.proofs.Classes.{is-lead, no_lead}
use Rattle.text.proofs.Lines.{tests, conj, by_lines_lem, fails_at}
use Rattle.text.proofs.utf8.utf8_2.Goals as goal
use Rattle.text.proofs.utf8.utf8_2.Goals.{else-first-eq-LEAD_C2-via-then-first-eq-LEAD_C2+else-utf8_tail, else-first-eq-LEAD_C2-via-else-first-eq-LEAD_C2}

abbrev line : List ℕ → List Bool
line s = tests (within (0xC2 to 0xDF) ∷ within tail ∷ []) 0 s

pub returns-then-utf8_tail : goal.returns-then-utf8_tail
unfolding class_of
returns-then-utf8_tail c =
    rw (
      by_lines_lem utf8_2 _,
      is-lead c.requires.1 (within (0xC2 to 0xDF)) c.if-first-eq-LEAD_C2.true tt,
      sym c.utf8_tail.ensures ∙ c.if-utf8_tail.true,
    )

pub returns : goal.returns
unfolding class_of
returns c =
    let l = line c.args.s.now in
    let past : conj l ≡ false =
    elim c.else-first-eq-LEAD_C2.branch [
      | else-first-eq-LEAD_C2-via-then-first-eq-LEAD_C2+else-utf8_tail w ↦
          fails_at 1 l (sym w.utf8_tail.ensures ∙ w.if-utf8_tail.false)
      | else-first-eq-LEAD_C2-via-else-first-eq-LEAD_C2 w ↦
          fails_at 0 l (no_lead c.requires.1 (within (0xC2 to 0xDF)) w.if-first-eq-LEAD_C2.false tt)
    ] in
    rw (by_lines_lem utf8_2 _, past)
