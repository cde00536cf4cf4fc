-- The verdict by a rule: 26 stands before the other checks. Assumes nothing.
--     ruled-fine       where nothing is refused, nothing is by the others
--     ruled-refused    the number of a refusal is 26, or that of the others
use Prim.Native.Nat.{ℕ}
use mathlib.Core.Path.{◌≡◌}
use mathlib.Core.Bool.{Bool, true, false, not, cond}
use mathlib.Core.Logic.{◌⊎◌, inl, inr}
use mathlib.Core.List.{List}
use native.Mathlib.Omega.{arith}
use Rattle.times.specs.Times.{is_rule, no_such_rule}
use Rattle.game.specs.Checks.{Check}
use Rattle.evf_judging.specs.declared.Verdict.TheVariants.{Fine, Refused}
use Rattle.evf_judging.specs.Refusals.{first_refusal, under_rule}

module _ (rule : ℕ) (cs : List Check) where
  pub ruled-fine : first_refusal (under_rule rule cs) ≡ Fine → first_refusal cs ≡ Fine
  ruled-fine = by-rule (is_rule rule)
    where
      by-rule : (t : Bool) → cond (not t) (Refused no_such_rule) (first_refusal cs) ≡ Fine
          → first_refusal cs ≡ Fine
      by-rule true e = e
      by-rule false e = let z : ◌≡◌ {A = ℕ} 0 1 = cc in absurd (omega arith)

  pub ruled-refused : {n : ℕ} → first_refusal (under_rule rule cs) ≡ Refused n
      → (n ≡ no_such_rule) ⊎ (first_refusal cs ≡ Refused n)
  ruled-refused = by-rule (is_rule rule)
    where
      by-rule : {n : ℕ} (t : Bool) → cond (not t) (Refused no_such_rule) (first_refusal cs) ≡ Refused n
          → (n ≡ no_such_rule) ⊎ (first_refusal cs ≡ Refused n)
      by-rule true e = inr e
      by-rule {n} false e = let q : n ≡ no_such_rule = cc in inl q
