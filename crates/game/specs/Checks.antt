-- The refusals of a call as a list in checking order, and what it answers by the first that holds (01,
-- Refusals). Definitions only.
use Rattle.std.specs.Prelude.{ℕ, ◌≡◌, Bool, true, false, cond, List, [], ◌∷◌, ◌++◌}

-- a refusal's number, and whether its condition holds
pub record Check : Type 0 where
  pub number : ℕ
  pub holds : Bool

infixl 10 ◌when◌
abbrev pub ◌when◌ : ℕ → Bool → Check
n when b = record { number = n; holds = b }

-- the answer to the number of the first check that holds; `fine` where none does
abbrev pub first_of : {A : Type 0} → (fine : A) → (refused : ℕ → A) → List Check → A
first_of fine refused [] = fine
first_of fine refused (c ∷ cs) = cond c.holds (refused c.number) (first_of fine refused cs)

-- no check of the list holds
abbrev pub NoCheckHolds : List Check → Type 0
NoCheckHolds [] = Unit {0}
NoCheckHolds (c ∷ cs) = (c.holds ≡ false) × NoCheckHolds cs

-- a check of the list that holds, none before it holding, and its number n
pub record First (cs : List Check) (n : ℕ) : Type 0 where
  pub before : List Check
  pub check : Check
  pub after : List Check
  pub split : cs ≡ before ++ (check ∷ after)
  pub number_is : check.number ≡ n
  pub holds_is : check.holds ≡ true
  pub none : NoCheckHolds before
