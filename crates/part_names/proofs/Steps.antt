-- A digest of bytes behind others, and the steps of the loop over the places of a cut. Assumes nothing.
use Prim.Native.Nat.{ℕ, zero, suc, ◌-◌, ◌≤◌}
use mathlib.Core.Path.{◌≡◌, refl, sym}
use mathlib.Core.Bool.{true, false}
use mathlib.Core.List.{List, ◌++◌, foldl-append}
use native.Mathlib.Omega.{arith}
use Rattle.part_names.specs.Parts.{mixed, digest, tears, cut_at}

-- DIGESTS

-- bytes behind others
pub digest_then : (h : ℕ) (a b : List ℕ) → digest (digest h a) b ≡ digest h (a ++ b)
unfolding digest
digest_then h a b = sym (foldl-append mixed h a b)

-- CUTS

pub cut_here : (name : List ℕ) (k : ℕ) → tears name k ≡ false → cut_at name k ≡ k
unfolding cut_at
cut_here name zero e = refl
cut_here name (suc k) e = rw e

pub cut_start : (name : List ℕ) (k : ℕ) → k ≤ 0 → cut_at name k ≡ 0
unfolding cut_at
cut_start name zero l = refl
cut_start name (suc k) l = absurd (omega arith)

pub cut_before : (name : List ℕ) (k : ℕ) → tears name k ≡ true → cut_at name (k - 1) ≡ cut_at name k
unfolding cut_at
cut_before name zero e = refl
cut_before name (suc k) e = let z : suc k - 1 ≡ k = omega arith in rw (e, z)
