-- `text::utf8::utf8_3` meets its contract: a line is tested from its first byte to its last, and what is
-- tested of classes is the line's range, which antt computes over all bytes. Assumes nothing.
use Prim.Native.Nat.{ℕ, ◌<◌}
use mathlib.Core.Path.{◌≡◌, sym, ◌∙◌}
use mathlib.Core.Bool.{Bool, false, cond}
use mathlib.Core.List.{List, [], ◌∷◌}
use native.Mathlib.Omega.{arith}
use lib.ListN.{get_or}
use Rattle.text.specs.Utf8.{◌to◌, within, tail, utf8_3}
use Rattle.text.specs.Classes.{class_of, in_classes}
use Rattle.text.specs.Chars.{starts, spelled_by}
use Rattle.text.proofs.Classes.{starts-same, is-lead, no_lead}
use Rattle.text.proofs.Lines.{tests, conj, by_lines_lem, fails_at}
use Rattle.text.proofs.Lines.{either, starts_either, between}
use Rattle.text.proofs.utf8.utf8_3.Goals as goal
use Rattle.text.proofs.utf8.utf8_3.Goals.{else-first-eq-LEAD_E0-via-then-first-eq-LEAD_E0+then-is_class+else-utf8_tail, else-first-eq-LEAD_E0-via-then-first-eq-LEAD_E0+else-is_class, else-first-eq-LEAD_E0-via-else-first-eq-LEAD_E0}
use Rattle.text.proofs.utf8.utf8_3.Goals.{else-first-eq-LEAD_E1-via-then-first-eq-LEAD_E1+then-utf8_tail-2+else-utf8_tail-3, else-first-eq-LEAD_E1-via-then-first-eq-LEAD_E1+else-utf8_tail-2, else-first-eq-LEAD_E1-via-else-first-eq-LEAD_E1}
use Rattle.text.proofs.utf8.utf8_3.Goals.{else-first-eq-LEAD_ED-via-then-first-eq-LEAD_ED+then-is_class-2+else-utf8_tail-4, else-first-eq-LEAD_ED-via-then-first-eq-LEAD_ED+else-is_class-2, else-first-eq-LEAD_ED-via-else-first-eq-LEAD_ED}

-- THE LINES

abbrev line-E0 : List ℕ → List Bool
line-E0 s = tests (within (0xE0 to 0xE0) ∷ within (0xA0 to 0xBF) ∷ within tail ∷ []) 0 s

abbrev line-E1 : List ℕ → List Bool
line-E1 s = tests (either (0xE1 to 0xEC) (0xEE to 0xEF) ∷ within tail ∷ within tail ∷ []) 0 s

abbrev line-ED : List ℕ → List Bool
line-ED s = tests (within (0xED to 0xED) ∷ within (0x80 to 0x9F) ∷ within tail ∷ []) 0 s

rule : (s : List ℕ)
    → spelled_by utf8_3 s
    ≡ cond (conj (line-E0 s)) 3 (cond (conj (line-E1 s)) 3 (cond (conj (line-ED s)) 3 0))
rule s =
    by_lines_lem utf8_3 s
    ∙ rw (
      between 3 (starts (within (0xE1 to 0xEC)) s) (conj (line-ED s)) (starts (within (0xEE to 0xEF)) s)
          (conj (tests (within tail ∷ within tail ∷ []) 1 s)),
      ← starts_either (0xE1 to 0xEC) (0xEE to 0xEF) s,
    )

-- THE CODE

pub returns-then-utf8_tail : goal.returns-then-utf8_tail
unfolding class_of
returns-then-utf8_tail c =
    let s = c.args.s.now in
    let small : (i : ℕ) → get_or s i 0 < 256 = λ i. omega (arith, c.type_inv.s i) in
    rw (
      rule _,
      is-lead c.requires.1 (within (0xE0 to 0xE0)) c.if-first-eq-LEAD_E0.true tt,
      sym (c.is_class.ensures ∙ starts-same (in_classes _ _) (within (0xA0 to 0xBF)) tt s 1 small) ∙ c.if-is_class.true,
      sym c.utf8_tail.ensures ∙ c.if-utf8_tail.true,
    )

pub returns-then-utf8_tail-3 : goal.returns-then-utf8_tail-3
unfolding class_of
returns-then-utf8_tail-3 c =
    let s = c.args.s.now in
    let small : (i : ℕ) → get_or s i 0 < 256 = λ i. omega (arith, c.type_inv.s i) in
    let past-E0 : conj (line-E0 s) ≡ false =
    elim c.else-first-eq-LEAD_E0.branch [
      | else-first-eq-LEAD_E0-via-then-first-eq-LEAD_E0+then-is_class+else-utf8_tail w ↦ fails_at 2 (line-E0 s) (sym w.utf8_tail.ensures ∙ w.if-utf8_tail.false)
      | else-first-eq-LEAD_E0-via-then-first-eq-LEAD_E0+else-is_class w ↦ fails_at 1 (line-E0 s) (sym (w.is_class.ensures ∙ starts-same (in_classes _ _) (within (0xA0 to 0xBF)) tt s 1 small) ∙ w.if-is_class.false)
      | else-first-eq-LEAD_E0-via-else-first-eq-LEAD_E0 w ↦ fails_at 0 (line-E0 s) (no_lead c.requires.1 (within (0xE0 to 0xE0)) w.if-first-eq-LEAD_E0.false tt)
    ] in
    rw (
      rule _,
      past-E0,
      is-lead c.requires.1 (either (0xE1 to 0xEC) (0xEE to 0xEF)) c.if-first-eq-LEAD_E1.true tt,
      sym c.utf8_tail-then-first-eq-LEAD_E1.ensures ∙ c.if-utf8_tail-2.true,
      sym c.utf8_tail-then-utf8_tail-2.ensures ∙ c.if-utf8_tail-3.true,
    )

pub returns-then-utf8_tail-4 : goal.returns-then-utf8_tail-4
unfolding class_of
returns-then-utf8_tail-4 c =
    let s = c.args.s.now in
    let small : (i : ℕ) → get_or s i 0 < 256 = λ i. omega (arith, c.type_inv.s i) in
    let past-E0 : conj (line-E0 s) ≡ false =
    elim c.else-first-eq-LEAD_E0.branch [
      | else-first-eq-LEAD_E0-via-then-first-eq-LEAD_E0+then-is_class+else-utf8_tail w ↦ fails_at 2 (line-E0 s) (sym w.utf8_tail.ensures ∙ w.if-utf8_tail.false)
      | else-first-eq-LEAD_E0-via-then-first-eq-LEAD_E0+else-is_class w ↦ fails_at 1 (line-E0 s) (sym (w.is_class.ensures ∙ starts-same (in_classes _ _) (within (0xA0 to 0xBF)) tt s 1 small) ∙ w.if-is_class.false)
      | else-first-eq-LEAD_E0-via-else-first-eq-LEAD_E0 w ↦ fails_at 0 (line-E0 s) (no_lead c.requires.1 (within (0xE0 to 0xE0)) w.if-first-eq-LEAD_E0.false tt)
    ] in
    let past-E1 : conj (line-E1 s) ≡ false =
    elim c.else-first-eq-LEAD_E1.branch [
      | else-first-eq-LEAD_E1-via-then-first-eq-LEAD_E1+then-utf8_tail-2+else-utf8_tail-3 w ↦ fails_at 2 (line-E1 s) (sym w.utf8_tail-then-utf8_tail-2.ensures ∙ w.if-utf8_tail-3.false)
      | else-first-eq-LEAD_E1-via-then-first-eq-LEAD_E1+else-utf8_tail-2 w ↦ fails_at 1 (line-E1 s) (sym w.utf8_tail-then-first-eq-LEAD_E1.ensures ∙ w.if-utf8_tail-2.false)
      | else-first-eq-LEAD_E1-via-else-first-eq-LEAD_E1 w ↦ fails_at 0 (line-E1 s) (no_lead c.requires.1 (either (0xE1 to 0xEC) (0xEE to 0xEF)) w.if-first-eq-LEAD_E1.false tt)
    ] in
    rw (
      rule _,
      past-E0,
      past-E1,
      is-lead c.requires.1 (within (0xED to 0xED)) c.if-first-eq-LEAD_ED.true tt,
      sym (c.is_class-then-first-eq-LEAD_ED.ensures ∙ starts-same (in_classes _ _) (within (0x80 to 0x9F)) tt s 1 small) ∙ c.if-is_class-2.true,
      sym c.utf8_tail-then-is_class-2.ensures ∙ c.if-utf8_tail-4.true,
    )

pub returns : goal.returns
unfolding class_of
returns c =
    let s = c.args.s.now in
    let small : (i : ℕ) → get_or s i 0 < 256 = λ i. omega (arith, c.type_inv.s i) in
    let past-E0 : conj (line-E0 s) ≡ false =
    elim c.else-first-eq-LEAD_E0.branch [
      | else-first-eq-LEAD_E0-via-then-first-eq-LEAD_E0+then-is_class+else-utf8_tail w ↦ fails_at 2 (line-E0 s) (sym w.utf8_tail.ensures ∙ w.if-utf8_tail.false)
      | else-first-eq-LEAD_E0-via-then-first-eq-LEAD_E0+else-is_class w ↦ fails_at 1 (line-E0 s) (sym (w.is_class.ensures ∙ starts-same (in_classes _ _) (within (0xA0 to 0xBF)) tt s 1 small) ∙ w.if-is_class.false)
      | else-first-eq-LEAD_E0-via-else-first-eq-LEAD_E0 w ↦ fails_at 0 (line-E0 s) (no_lead c.requires.1 (within (0xE0 to 0xE0)) w.if-first-eq-LEAD_E0.false tt)
    ] in
    let past-E1 : conj (line-E1 s) ≡ false =
    elim c.else-first-eq-LEAD_E1.branch [
      | else-first-eq-LEAD_E1-via-then-first-eq-LEAD_E1+then-utf8_tail-2+else-utf8_tail-3 w ↦ fails_at 2 (line-E1 s) (sym w.utf8_tail-then-utf8_tail-2.ensures ∙ w.if-utf8_tail-3.false)
      | else-first-eq-LEAD_E1-via-then-first-eq-LEAD_E1+else-utf8_tail-2 w ↦ fails_at 1 (line-E1 s) (sym w.utf8_tail-then-first-eq-LEAD_E1.ensures ∙ w.if-utf8_tail-2.false)
      | else-first-eq-LEAD_E1-via-else-first-eq-LEAD_E1 w ↦ fails_at 0 (line-E1 s) (no_lead c.requires.1 (either (0xE1 to 0xEC) (0xEE to 0xEF)) w.if-first-eq-LEAD_E1.false tt)
    ] in
    let past-ED : conj (line-ED s) ≡ false =
    elim c.else-first-eq-LEAD_ED.branch [
      | else-first-eq-LEAD_ED-via-then-first-eq-LEAD_ED+then-is_class-2+else-utf8_tail-4 w ↦ fails_at 2 (line-ED s) (sym w.utf8_tail-then-is_class-2.ensures ∙ w.if-utf8_tail-4.false)
      | else-first-eq-LEAD_ED-via-then-first-eq-LEAD_ED+else-is_class-2 w ↦ fails_at 1 (line-ED s) (sym (w.is_class-then-first-eq-LEAD_ED.ensures ∙ starts-same (in_classes _ _) (within (0x80 to 0x9F)) tt s 1 small) ∙ w.if-is_class-2.false)
      | else-first-eq-LEAD_ED-via-else-first-eq-LEAD_ED w ↦ fails_at 0 (line-ED s) (no_lead c.requires.1 (within (0xED to 0xED)) w.if-first-eq-LEAD_ED.false tt)
    ] in
    rw (rule _, past-E0, past-E1, past-ED)
