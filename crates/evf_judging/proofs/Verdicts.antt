-- The verdict by the checks. Assumes nothing.
--     first_refused    a number is that of the first check that holds; the other way is game's first-of
--     first_fine       where nothing is refused, no check holds; the other way is game's none-holds
--     told_is          whatever is so of the number of each check that holds is so of the number that is told
use Prim.Native.Nat.{ℕ}
use mathlib.Core.Path.{◌≡◌, refl, subst}
use mathlib.Core.Bool.{Bool, true, false, cond}
use mathlib.Core.List.{List, [], ◌∷◌}
use native.Mathlib.Omega.{arith}
use Rattle.game.specs.Checks.{Check, NoCheckHolds, First}
use Rattle.game.proofs.Checks.{first-cases}
use Rattle.evf_judging.specs.declared.Verdict.{Verdict}
use Rattle.evf_judging.specs.declared.Verdict.TheVariants.{Fine, Refused}
use Rattle.evf_judging.specs.Refusals.{first_refusal}

abbrev pub FirstIs : List Check → Verdict → Type 0
FirstIs cs Fine = NoCheckHolds cs
FirstIs cs (Refused n) = First cs n

pub first_is : (cs : List Check) → FirstIs cs (first_refusal cs)
first_is cs = first-cases Fine Refused cs (FirstIs cs) (λ none. none) (λ n f. f)

pub first_refused : (cs : List Check) (n : ℕ) → first_refusal cs ≡ Refused n → First cs n
first_refused cs n e = subst (FirstIs cs) e (first_is cs)

pub first_fine : (cs : List Check) → first_refusal cs ≡ Fine → NoCheckHolds cs
first_fine cs e = subst (FirstIs cs) e (first_is cs)

-- whatever is so of the number of each check that holds is so of the number that is told
abbrev pub HeldAre : (ℕ → Type 0) → List Check → Type 0
HeldAre P [] = Unit {0}
HeldAre P (c ∷ cs) = (c.holds ≡ true → P c.number) × HeldAre P cs

told_first : {k : ℕ} (P : ℕ → Type 0) (b : Bool) (n : ℕ) (v : Verdict) → (b ≡ true → P n)
    → (v ≡ Refused k → P k) → cond b (Refused n) v ≡ Refused k → P k
told_first {k} P true n v here later e = let q : k ≡ n = cc in rw q (here refl)
told_first P false n v here later e = later e

pub told_is : {k : ℕ} (P : ℕ → Type 0) (cs : List Check) → HeldAre P cs → first_refusal cs ≡ Refused k → P k
told_is P [] each e = let z : ◌≡◌ {A = ℕ} 0 1 = cc in absurd (omega arith)
told_is P (c ∷ cs) each e =
    told_first P c.holds c.number (first_refusal cs) each.0 (told_is P cs each.1) e

-- a check that does not hold is not told
pub untold : {P : Type 0} {b : Bool} → b ≡ false → b ≡ true → P
untold e f = let z : ◌≡◌ {A = ℕ} 0 1 = cc in absurd (omega arith)
