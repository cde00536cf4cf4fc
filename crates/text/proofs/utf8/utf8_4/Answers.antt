-- `text::utf8::utf8_4` meets its contract: a line is tested from its first byte to its last, and what is
-- tested of classes is the line's range, which antt computes over all bytes. Assumes nothing.
use Prim.Native.Nat.{ℕ, ◌<◌}
use mathlib.Core.Path.{◌≡◌, sym, ◌∙◌}
use mathlib.Core.Bool.{Bool, false}
use mathlib.Core.List.{List, [], ◌∷◌}
use native.Mathlib.Omega.{arith}
use lib.ListN.{get_or}
use Rattle.text.specs.Utf8.{◌to◌, within, tail, utf8_4}
use Rattle.text.specs.Classes.{class_of, in_classes}
use Rattle.text.proofs.Classes.{starts-same, is-lead, no_lead}
use Rattle.text.proofs.Lines.{tests, conj, by_lines_lem, fails_at}
use Rattle.text.proofs.utf8.utf8_4.Goals as goal
use Rattle.text.proofs.utf8.utf8_4.Goals.{else-first-eq-LEAD_F0-via-then-first-eq-LEAD_F0+then-is_class+then-utf8_tail+else-utf8_tail-2, else-first-eq-LEAD_F0-via-then-first-eq-LEAD_F0+then-is_class+else-utf8_tail, else-first-eq-LEAD_F0-via-then-first-eq-LEAD_F0+else-is_class, else-first-eq-LEAD_F0-via-else-first-eq-LEAD_F0}
use Rattle.text.proofs.utf8.utf8_4.Goals.{else-first-eq-LEAD_F1-via-then-first-eq-LEAD_F1+then-utf8_tail-3+then-utf8_tail-4+else-utf8_tail-5, else-first-eq-LEAD_F1-via-then-first-eq-LEAD_F1+then-utf8_tail-3+else-utf8_tail-4, else-first-eq-LEAD_F1-via-then-first-eq-LEAD_F1+else-utf8_tail-3, else-first-eq-LEAD_F1-via-else-first-eq-LEAD_F1}
use Rattle.text.proofs.utf8.utf8_4.Goals.{else-first-eq-LEAD_F4-via-then-first-eq-LEAD_F4+then-is_class-2+then-utf8_tail-6+else-utf8_tail-7, else-first-eq-LEAD_F4-via-then-first-eq-LEAD_F4+then-is_class-2+else-utf8_tail-6, else-first-eq-LEAD_F4-via-then-first-eq-LEAD_F4+else-is_class-2, else-first-eq-LEAD_F4-via-else-first-eq-LEAD_F4}

-- THE LINES

abbrev line-F0 : List ℕ → List Bool
line-F0 s = tests (within (0xF0 to 0xF0) ∷ within (0x90 to 0xBF) ∷ within tail ∷ within tail ∷ []) 0 s

abbrev line-F1 : List ℕ → List Bool
line-F1 s = tests (within (0xF1 to 0xF3) ∷ within tail ∷ within tail ∷ within tail ∷ []) 0 s

abbrev line-F4 : List ℕ → List Bool
line-F4 s = tests (within (0xF4 to 0xF4) ∷ within (0x80 to 0x8F) ∷ within tail ∷ within tail ∷ []) 0 s

-- THE CODE

pub returns-then-utf8_tail-2 : goal.returns-then-utf8_tail-2
unfolding class_of
returns-then-utf8_tail-2 c =
    let s = c.args.s.now in
    let small : (i : ℕ) → get_or s i 0 < 256 = λ i. omega (arith, c.type_inv.s i) in
    rw (
      by_lines_lem utf8_4 _,
      is-lead c.requires.1 (within (0xF0 to 0xF0)) c.if-first-eq-LEAD_F0.true tt,
      sym (c.is_class.ensures ∙ starts-same (in_classes _ _) (within (0x90 to 0xBF)) tt s 1 small) ∙ c.if-is_class.true,
      sym c.utf8_tail.ensures ∙ c.if-utf8_tail.true,
      sym c.utf8_tail-then-utf8_tail.ensures ∙ c.if-utf8_tail-2.true,
    )

pub returns-then-utf8_tail-5 : goal.returns-then-utf8_tail-5
unfolding class_of
returns-then-utf8_tail-5 c =
    let s = c.args.s.now in
    let small : (i : ℕ) → get_or s i 0 < 256 = λ i. omega (arith, c.type_inv.s i) in
    let past-F0 : conj (line-F0 s) ≡ false =
    elim c.else-first-eq-LEAD_F0.branch [
      | else-first-eq-LEAD_F0-via-then-first-eq-LEAD_F0+then-is_class+then-utf8_tail+else-utf8_tail-2 w ↦ fails_at 3 (line-F0 s) (sym w.utf8_tail-then-utf8_tail.ensures ∙ w.if-utf8_tail-2.false)
      | else-first-eq-LEAD_F0-via-then-first-eq-LEAD_F0+then-is_class+else-utf8_tail w ↦ fails_at 2 (line-F0 s) (sym w.utf8_tail.ensures ∙ w.if-utf8_tail.false)
      | else-first-eq-LEAD_F0-via-then-first-eq-LEAD_F0+else-is_class w ↦ fails_at 1 (line-F0 s) (sym (w.is_class.ensures ∙ starts-same (in_classes _ _) (within (0x90 to 0xBF)) tt s 1 small) ∙ w.if-is_class.false)
      | else-first-eq-LEAD_F0-via-else-first-eq-LEAD_F0 w ↦ fails_at 0 (line-F0 s) (no_lead c.requires.1 (within (0xF0 to 0xF0)) w.if-first-eq-LEAD_F0.false tt)
    ] in
    rw (
      by_lines_lem utf8_4 _,
      past-F0,
      is-lead c.requires.1 (within (0xF1 to 0xF3)) c.if-first-eq-LEAD_F1.true tt,
      sym c.utf8_tail-then-first-eq-LEAD_F1.ensures ∙ c.if-utf8_tail-3.true,
      sym c.utf8_tail-then-utf8_tail-3.ensures ∙ c.if-utf8_tail-4.true,
      sym c.utf8_tail-then-utf8_tail-4.ensures ∙ c.if-utf8_tail-5.true,
    )

pub returns-then-utf8_tail-7 : goal.returns-then-utf8_tail-7
unfolding class_of
returns-then-utf8_tail-7 c =
    let s = c.args.s.now in
    let small : (i : ℕ) → get_or s i 0 < 256 = λ i. omega (arith, c.type_inv.s i) in
    let past-F0 : conj (line-F0 s) ≡ false =
    elim c.else-first-eq-LEAD_F0.branch [
      | else-first-eq-LEAD_F0-via-then-first-eq-LEAD_F0+then-is_class+then-utf8_tail+else-utf8_tail-2 w ↦ fails_at 3 (line-F0 s) (sym w.utf8_tail-then-utf8_tail.ensures ∙ w.if-utf8_tail-2.false)
      | else-first-eq-LEAD_F0-via-then-first-eq-LEAD_F0+then-is_class+else-utf8_tail w ↦ fails_at 2 (line-F0 s) (sym w.utf8_tail.ensures ∙ w.if-utf8_tail.false)
      | else-first-eq-LEAD_F0-via-then-first-eq-LEAD_F0+else-is_class w ↦ fails_at 1 (line-F0 s) (sym (w.is_class.ensures ∙ starts-same (in_classes _ _) (within (0x90 to 0xBF)) tt s 1 small) ∙ w.if-is_class.false)
      | else-first-eq-LEAD_F0-via-else-first-eq-LEAD_F0 w ↦ fails_at 0 (line-F0 s) (no_lead c.requires.1 (within (0xF0 to 0xF0)) w.if-first-eq-LEAD_F0.false tt)
    ] in
    let past-F1 : conj (line-F1 s) ≡ false =
    elim c.else-first-eq-LEAD_F1.branch [
      | else-first-eq-LEAD_F1-via-then-first-eq-LEAD_F1+then-utf8_tail-3+then-utf8_tail-4+else-utf8_tail-5 w ↦ fails_at 3 (line-F1 s) (sym w.utf8_tail-then-utf8_tail-4.ensures ∙ w.if-utf8_tail-5.false)
      | else-first-eq-LEAD_F1-via-then-first-eq-LEAD_F1+then-utf8_tail-3+else-utf8_tail-4 w ↦ fails_at 2 (line-F1 s) (sym w.utf8_tail-then-utf8_tail-3.ensures ∙ w.if-utf8_tail-4.false)
      | else-first-eq-LEAD_F1-via-then-first-eq-LEAD_F1+else-utf8_tail-3 w ↦ fails_at 1 (line-F1 s) (sym w.utf8_tail-then-first-eq-LEAD_F1.ensures ∙ w.if-utf8_tail-3.false)
      | else-first-eq-LEAD_F1-via-else-first-eq-LEAD_F1 w ↦ fails_at 0 (line-F1 s) (no_lead c.requires.1 (within (0xF1 to 0xF3)) w.if-first-eq-LEAD_F1.false tt)
    ] in
    rw (
      by_lines_lem utf8_4 _,
      past-F0,
      past-F1,
      is-lead c.requires.1 (within (0xF4 to 0xF4)) c.if-first-eq-LEAD_F4.true tt,
      sym (c.is_class-then-first-eq-LEAD_F4.ensures ∙ starts-same (in_classes _ _) (within (0x80 to 0x8F)) tt s 1 small) ∙ c.if-is_class-2.true,
      sym c.utf8_tail-then-is_class-2.ensures ∙ c.if-utf8_tail-6.true,
      sym c.utf8_tail-then-utf8_tail-6.ensures ∙ c.if-utf8_tail-7.true,
    )

pub returns : goal.returns
unfolding class_of
returns c =
    let s = c.args.s.now in
    let small : (i : ℕ) → get_or s i 0 < 256 = λ i. omega (arith, c.type_inv.s i) in
    let past-F0 : conj (line-F0 s) ≡ false =
    elim c.else-first-eq-LEAD_F0.branch [
      | else-first-eq-LEAD_F0-via-then-first-eq-LEAD_F0+then-is_class+then-utf8_tail+else-utf8_tail-2 w ↦ fails_at 3 (line-F0 s) (sym w.utf8_tail-then-utf8_tail.ensures ∙ w.if-utf8_tail-2.false)
      | else-first-eq-LEAD_F0-via-then-first-eq-LEAD_F0+then-is_class+else-utf8_tail w ↦ fails_at 2 (line-F0 s) (sym w.utf8_tail.ensures ∙ w.if-utf8_tail.false)
      | else-first-eq-LEAD_F0-via-then-first-eq-LEAD_F0+else-is_class w ↦ fails_at 1 (line-F0 s) (sym (w.is_class.ensures ∙ starts-same (in_classes _ _) (within (0x90 to 0xBF)) tt s 1 small) ∙ w.if-is_class.false)
      | else-first-eq-LEAD_F0-via-else-first-eq-LEAD_F0 w ↦ fails_at 0 (line-F0 s) (no_lead c.requires.1 (within (0xF0 to 0xF0)) w.if-first-eq-LEAD_F0.false tt)
    ] in
    let past-F1 : conj (line-F1 s) ≡ false =
    elim c.else-first-eq-LEAD_F1.branch [
      | else-first-eq-LEAD_F1-via-then-first-eq-LEAD_F1+then-utf8_tail-3+then-utf8_tail-4+else-utf8_tail-5 w ↦ fails_at 3 (line-F1 s) (sym w.utf8_tail-then-utf8_tail-4.ensures ∙ w.if-utf8_tail-5.false)
      | else-first-eq-LEAD_F1-via-then-first-eq-LEAD_F1+then-utf8_tail-3+else-utf8_tail-4 w ↦ fails_at 2 (line-F1 s) (sym w.utf8_tail-then-utf8_tail-3.ensures ∙ w.if-utf8_tail-4.false)
      | else-first-eq-LEAD_F1-via-then-first-eq-LEAD_F1+else-utf8_tail-3 w ↦ fails_at 1 (line-F1 s) (sym w.utf8_tail-then-first-eq-LEAD_F1.ensures ∙ w.if-utf8_tail-3.false)
      | else-first-eq-LEAD_F1-via-else-first-eq-LEAD_F1 w ↦ fails_at 0 (line-F1 s) (no_lead c.requires.1 (within (0xF1 to 0xF3)) w.if-first-eq-LEAD_F1.false tt)
    ] in
    let past-F4 : conj (line-F4 s) ≡ false =
    elim c.else-first-eq-LEAD_F4.branch [
      | else-first-eq-LEAD_F4-via-then-first-eq-LEAD_F4+then-is_class-2+then-utf8_tail-6+else-utf8_tail-7 w ↦ fails_at 3 (line-F4 s) (sym w.utf8_tail-then-utf8_tail-6.ensures ∙ w.if-utf8_tail-7.false)
      | else-first-eq-LEAD_F4-via-then-first-eq-LEAD_F4+then-is_class-2+else-utf8_tail-6 w ↦ fails_at 2 (line-F4 s) (sym w.utf8_tail-then-is_class-2.ensures ∙ w.if-utf8_tail-6.false)
      | else-first-eq-LEAD_F4-via-then-first-eq-LEAD_F4+else-is_class-2 w ↦ fails_at 1 (line-F4 s) (sym (w.is_class-then-first-eq-LEAD_F4.ensures ∙ starts-same (in_classes _ _) (within (0x80 to 0x8F)) tt s 1 small) ∙ w.if-is_class-2.false)
      | else-first-eq-LEAD_F4-via-else-first-eq-LEAD_F4 w ↦ fails_at 0 (line-F4 s) (no_lead c.requires.1 (within (0xF4 to 0xF4)) w.if-first-eq-LEAD_F4.false tt)
    ] in
    rw (by_lines_lem utf8_4 _, past-F0, past-F1, past-F4)
