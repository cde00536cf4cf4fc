-- The position after cells were uncovered, by each test. Assumes nothing.
use mathlib.Core.Path.{◌≡◌}
use mathlib.Core.Bool.{Bool, true, false}
use Prim.Native.Nat.{ℕ, ◌-◌, ◌<◌, ◌≤◌}
use borrow.Author.Tests.{eq-eqb, ne_eqb, le-leb, lt-leb}
use Rattle.moves.specs.declared.Position.{Position}
use Rattle.moves.specs.declared.Played.TheVariants.{Won, Lost}
use Rattle.moves.specs.Moves.{standing, judged_from}

module _ (p : Position) (took : ℕ) (mine : Bool) where
  pub judged-none : took ≡ 0 → judged_from p took mine ≡ p
  unfolding judged_from
  judged-none e = rw (eq-eqb took 0 e)

  module _ (some : took ≡ 0 → ⊥) where
    pub judged-lost : mine ≡ true → judged_from p took mine ≡ standing p p.left Lost
    unfolding judged_from
    judged-lost m = rw (ne_eqb took 0 some, m)

    pub judged-won : mine ≡ false → p.left ≤ took → judged_from p took mine ≡ standing p 0 Won
    unfolding judged_from
    judged-won m l = rw (ne_eqb took 0 some, m, le-leb p.left took l)

    pub judged-on : mine ≡ false → took < p.left
        → judged_from p took mine ≡ standing p (p.left - took) p.stands
    unfolding judged_from
    judged-on m l = rw (ne_eqb took 0 some, m, lt-leb p.left took l)
