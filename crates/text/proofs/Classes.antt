-- The means by which a test of classes is a range of the grammar: two tests that agree at each byte, which
-- antt computes over all bytes, agree wherever they are used. Assumes nothing.
--     starts-same              at the front of what is left of a text
--     starts-at, starts-past   a test at a place, and past the end
--     in_table                 a byte's class stands at its place in the table
--     is-lead, no_lead         a first byte's class is that of a range, or is not
use Prim.Native.Nat.{ℕ, zero, suc, ◌≤◌, ◌<◌}
use mathlib.Core.Path.{◌≡◌, refl, sym, ap, ◌∙◌}
use mathlib.Core.Bool.{Bool, true, false, beq}
use mathlib.Core.List.{List, [], ◌∷◌}
use lib.Dec.{T, eqb}
use lib.ListN.{length, get_or, drop, drop_of_length-le}
use lib.Seq.{drop-cons}
use borrow.Author.Tests.{eq-eqb, ne_eqb}
use Rattle.lists.proofs.Each.{getD-each}
use Rattle.lists.proofs.Tables.{all_below, below}
use Rattle.text.specs.Classes.{class_of, table}
use Rattle.text.specs.Chars.{FirstIs, starts}

same_bool : (a b : Bool) → T (beq a b) → a ≡ b
same_bool true true t = refl
same_bool true false t = absurd t
same_bool false true t = absurd t
same_bool false false t = refl

abbrev same_at : (p q : ℕ → Bool) → ℕ → Bool
same_at p q b = beq (p b) (q b)

-- two tests agree at each byte
abbrev pub Agree : (p q : ℕ → Bool) → Type 0
Agree p q = T (all_below (same_at p q) 256)

module _ (p q : ℕ → Bool) (t : Agree p q) where
  agree : (b : ℕ) → b < 256 → p b ≡ q b
  agree b h = same_bool (p b) (q b) (below (same_at p q) 256 t b h)

  pub starts-same : (s : List ℕ) (i : ℕ) → ((k : ℕ) → get_or s k 0 < 256)
      → starts p (drop i s) ≡ starts q (drop i s)
  starts-same [] zero small = refl
  starts-same [] (suc i) small = refl
  starts-same (b ∷ s) zero small = agree b (small 0)
  starts-same (b ∷ s) (suc i) small = starts-same s i (λ k. small (suc k))

module _ (p : ℕ → Bool) (s : List ℕ) (i : ℕ) where
  pub starts-at : i < length s → starts p (drop i s) ≡ p (get_or s i 0)
  starts-at h = rw (drop-cons s i 0 h) refl

  pub starts-past : length s ≤ i → starts p (drop i s) ≡ false
  starts-past h = rw (drop_of_length-le s h) refl

-- a byte's class stands at its place in the table
pub in_table : (classes : List ℕ) → classes ≡ table → (b : ℕ) → b < 256 → get_or classes b 0 ≡ class_of b
unfolding table
in_table classes e b h = rw e (getD-each 256 b class_of 0 h)

-- the first byte, and its class
pub first_is : (classes s : List ℕ) → classes ≡ table → 0 < length s → get_or s 0 0 < 256
    → FirstIs s (get_or classes (get_or s 0 0) 0)
first_is classes s t i b = record { inside = i; byte = b; told = in_table classes t (get_or s 0 0) b }

-- the class of a byte is this
abbrev pub is_of : ℕ → ℕ → Bool
is_of k b = eqb (class_of b) k

module _ {s : List ℕ} {k : ℕ} (w : FirstIs s k) (q : ℕ → Bool) where
  lead_is : (j : ℕ) → Agree (is_of j) q → eqb k j ≡ starts q s
  lead_is j t =
      ap (λ (c : ℕ). eqb c j) w.told ∙ agree (is_of j) q t (get_or s 0 0) w.byte
      ∙ sym (starts-at q s 0 w.inside)

  module _ {j : ℕ} where
    pub is-lead : k ≡ j → Agree (is_of j) q → starts q s ≡ true
    is-lead h t = sym (lead_is j t) ∙ eq-eqb k j h

    pub no_lead : (k ≡ j → ⊥) → Agree (is_of j) q → starts q s ≡ false
    no_lead h t = sym (lead_is j t) ∙ ne_eqb k j h
