-- The codes that stand for nothing, 13 to 80 and 84 to 98, are those above 12 and below 100 that name no game
-- state. Assumes nothing.
use Prim.Native.Nat.{ℕ, ◌<◌, ◌≤◌}
use mathlib.Core.Path.{◌≡◌, refl, sym, ◌∙◌}
use mathlib.Core.Bool.{Bool, true, false, ◌&&◌, ◌||◌, and-eq-true_iff}
use native.Mathlib.Omega.{arith}
use lib.Dec.{T, leb, ltb}
use borrow.Author.Tests.{lt-ltb, leb-true}
use Rattle.lists.proofs.Tables.{below}
use Rattle.game.specs.declared.GameState.{GameState}
use Rattle.std.specs.Prelude.{Option, Some, None}
use Rattle.game.specs.Kinds.{state_of}
use Rattle.records_v4.specs.Records.{unnamed}

abbrev is_unknown : Option GameState → Bool
is_unknown None = true
is_unknown (Some s) = false

-- one test of the codes below 100, and none above them is unnamed
abbrev agree : Bool → Bool → Bool
agree true b = b
agree false true = false
agree false false = true

agreed : (a b : Bool) → T (agree a b) → a ≡ b
agreed true true t = refl
agreed true false t = absurd t
agreed false true t = absurd t
agreed false false t = refl

abbrev right : ℕ → Bool
right n = agree (ltb 12 n && is_unknown (state_of n)) (unnamed n)

all_right : (n : ℕ) → n < 100 → T (right n)
unfolding state_of unnamed
all_right = below right 100 tt

module _ (n : ℕ) (l : 12 < n) (m : n < 100) where
  by-table : unnamed n ≡ (ltb 12 n && is_unknown (state_of n))
  by-table = sym (agreed _ _ (all_right n m))

  pub named : (s : GameState) → state_of n ≡ Some s → unnamed n ≡ false
  named s e = by-table ∙ rw (lt-ltb 12 n l, e)

  pub not_named : state_of n ≡ None → unnamed n ≡ true
  not_named e = by-table ∙ rw (lt-ltb 12 n l, e)

pub between : (n : ℕ) → unnamed n ≡ true → (12 < n) × (n < 100)
unfolding unnamed
between n e = go (leb 13 n && leb n 80) (leb 84 n && leb n 98) (λ t. both 13 80 t) (λ t. both 84 98 t) e
  where
    both : (a b : ℕ) → (leb a n && leb n b) ≡ true → (a ≤ n) × (n ≤ b)
    both a b t = let p = (and-eq-true_iff (leb a n) (leb n b)).0 t in
        (leb-true a n p.0, leb-true n b p.1)

    go : (a b : Bool) → (a ≡ true → (13 ≤ n) × (n ≤ 80)) → (b ≡ true → (84 ≤ n) × (n ≤ 98)) → (a || b) ≡ true
        → (12 < n) × (n < 100)
    go true b f g h = let p = f refl in (omega (arith, p.0), omega (arith, p.1))
    go false b f g h = let p = g h in (omega (arith, p.0), omega (arith, p.1))
