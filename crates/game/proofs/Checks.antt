-- What `first_of` answers, by the checks. Assumes nothing.
--     first-cases    what holds where no check holds, and where one is the first that holds, holds of the
--                    answer
--     first-of       the answer where a check is the first that holds
--     none-holds     and where none holds
--     first-map      what is made of the answer, made of each answer
--     numbered       what holds of every check's number holds of the number that is answered
--     refused-by     a number that is not 0 is the one by which any call with these checks is refused
--     fine_by        where the number is 0 no check holds, if none has that number
use Prim.Native.Nat.{ℕ}
use mathlib.Core.Path.{◌≡◌, refl, sym, ap, ◌∙◌}
use mathlib.Core.Bool.{Bool, true, false, cond}
use mathlib.Core.List.{List, [], ◌∷◌, ◌++◌, map}
use Rattle.game.specs.Checks.{Check, first_of, NoCheckHolds, First}

-- behind a check that does not hold
later : (c : Check) (cs : List Check) (n : ℕ) → c.holds ≡ false → First cs n → First (c ∷ cs) n
later c cs n e f = record {
  before = c ∷ f.before;
  check = f.check;
  after = f.after;
  split = ap (λ (l : List Check). c ∷ l) f.split;
  number_is = f.number_is;
  holds_is = f.holds_is;
  none = (e, f.none);
}

abbrev pub EachIs : (ℕ → Type 0) → List ℕ → Type 0
EachIs P [] = Unit {0}
EachIs P (n ∷ ns) = P n × EachIs P ns

module _ {A : Type 0} (fine : A) (refused : ℕ → A) where
  pub first-cases : (cs : List Check) (P : A → Type 0) → (NoCheckHolds cs → P fine)
      → ((n : ℕ) → First cs n → P (refused n)) → P (first_of fine refused cs)
  first-cases [] P none one = none tt
  first-cases (c ∷ cs) P none one =
      (elim c.holds as (λ t. c.holds ≡ t → P (cond t (refused c.number) (first_of fine refused cs))) [
        | true ↦ λ t. one c.number
            (record {
              before = [];
              check = c;
              after = cs;
              split = refl;
              number_is = refl;
              holds_is = t;
              none = tt;
            })
        | false ↦ λ t. first-cases cs P (λ l. none (t, l)) (λ n f. one n (later c cs n t f))
      ])
      refl

  -- checks that do not hold do not matter
  skip : (before rest : List Check) → NoCheckHolds before
      → first_of fine refused (before ++ rest) ≡ first_of fine refused rest
  skip [] rest none = refl
  skip (c ∷ before) rest none =
      ap (λ (t : Bool). cond t (refused c.number) (first_of fine refused (before ++ rest))) none.0
      ∙ skip before rest none.1

  pub first-of : (cs : List Check) (n : ℕ) → First cs n → first_of fine refused cs ≡ refused n
  first-of cs n f =
      ap (first_of fine refused) f.split ∙ skip f.before (f.check ∷ f.after) f.none
      ∙ ap (λ (t : Bool). cond t (refused f.check.number) (first_of fine refused f.after)) f.holds_is
      ∙ ap refused f.number_is

  pub none-holds : (cs : List Check) → NoCheckHolds cs → first_of fine refused cs ≡ fine
  none-holds [] none = refl
  none-holds (c ∷ cs) none =
      ap (λ (t : Bool). cond t (refused c.number) (first_of fine refused cs)) none.0
      ∙ none-holds cs none.1

  pub refused-by : (cs : List Check) (r : ℕ) → r ≡ first_of 0 (λ n. n) cs → (r ≡ 0 → ⊥)
      → refused r ≡ first_of fine refused cs
  refused-by [] r e some = absurd (some e)
  refused-by (c ∷ cs) r e some =
      (elim c.holds as (λ t. r ≡ cond t c.number (first_of 0 (λ n. n) cs)
      → refused r ≡ cond t (refused c.number) (first_of fine refused cs))
      [ true ↦ λ q. ap refused q | false ↦ λ q. refused-by cs r q some ]) e

  pub first-map : {B : Type 0} (f : A → B) (cs : List Check)
      → f (first_of fine refused cs) ≡ first_of (f fine) (λ n. f (refused n)) cs
  first-map f [] = refl
  first-map f (c ∷ cs) =
      (elim c.holds as (λ t. f (cond t (refused c.number) (first_of fine refused cs))
      ≡ cond t (f (refused c.number)) (first_of (f fine) (λ n. f (refused n)) cs))
      [ true ↦ refl | false ↦ first-map f cs ])

  pub numbered : (P : ℕ → Type 0) (Q : A → Type 0) → Q fine → ((n : ℕ) → P n → Q (refused n))
      → (cs : List Check)
      → EachIs P (map (λ (c : Check). c.number) cs) → Q (first_of fine refused cs)
  numbered P Q q step [] each = q
  numbered P Q q step (c ∷ cs) each =
      (elim c.holds as (λ t. Q (cond t (refused c.number) (first_of fine refused cs))) [
        | true ↦ step c.number each.0
        | false ↦ numbered P Q q step cs each.1
      ])

pub fine_by : (cs : List Check) → EachIs (λ n. n ≡ 0 → ⊥) (map (λ (c : Check). c.number) cs)
    → 0 ≡ first_of 0 (λ n. n) cs → NoCheckHolds cs
fine_by [] each e = tt
fine_by (c ∷ cs) each e =
    (elim c.holds as (λ t. c.holds ≡ t → 0 ≡ cond t c.number (first_of 0 (λ n. n) cs)
    → NoCheckHolds (c ∷ cs)) [
      | true ↦ λ t q. absurd (each.0 (sym q))
      | false ↦ λ t q. (t, fine_by cs each.1 q)
    ]) refl e
