-- The length of a part of either version, from that of the version. Assumes nothing.
use Prim.Native.Nat.{ℕ}
use mathlib.Core.Path.{◌≡◌}
use mathlib.Core.Bool.{cond}
use mathlib.Core.List.{List}
use lib.Dec.{eqb}
use borrow.Author.Tests.{eq-eqb, ne_eqb}
use Rattle.game.specs.declared.Header.{Header}
use Rattle.game.specs.Same.{Game}
use Rattle.byte_writer.specs.declared.Length.{Length}
use Rattle.layout_fields.specs.Parts.{Measures}

module _ (p q : Game → List ℕ) {h : Header} {bytes : List ℕ} {l r : Length} (version : ℕ) where
  pub as-4 : version ≡ 4 → Measures p h bytes l r
      → Measures (λ g. cond (eqb version 4) (p g) (q g)) h bytes l r
  as-4 e m = record { is = λ board. rw (eq-eqb version 4 e) (m.is board) }

  pub as-3 : (version ≡ 4 → ⊥) → Measures q h bytes l r
      → Measures (λ g. cond (eqb version 4) (p g) (q g)) h bytes l r
  as-3 e m = record { is = λ board. rw (ne_eqb version 4 e) (m.is board) }
