-- What a part name is like:
--     part_length   without its folder it has at most 126 bytes; file systems take 255
--     short_whole   a name of at most 100 bytes stands whole in it
--     part_other    such a name is never its own part's name
-- A longer name can be its own part's name, where the bytes are chosen for it.
-- Assumes nothing.
use Prim.Native.Nat.{ℕ, zero, suc, ◌+◌, ◌≤◌}
use mathlib.Core.Path.{◌≡◌, ap}
use mathlib.Core.Bool.{true, false, cond}
use mathlib.Core.List.{List, [], ◌++◌}
use native.Mathlib.Omega.{arith}
use lib.ListN.{length, length-append, length-take, get_or-eq_default}
use lib.Seq.{take_all}
use Rattle.text.specs.Decimals.{decimal_bytes}
use Rattle.text.proofs.Decimals.{twenty_at-most}
use Rattle.part_names.specs.Parts.{digest, tears, cut_at, kept, shortened, part_name}
use Rattle.part_names.proofs.Steps.{cut_here}

cut_low : (name : List ℕ) (k : ℕ) → cut_at name k ≤ k
unfolding cut_at
cut_low name zero = omega arith
cut_low name (suc k) =
    (elim (tears name (suc k)) as (λ t. cond t (cut_at name k) (suc k) ≤ suc k) [
      | true ↦ omega (arith, cut_low name k)
      | false ↦ omega arith
    ])

shortened-length : (name : List ℕ) → length (shortened name) ≤ kept
unfolding shortened
shortened-length name = simp length-take (omega (arith, cut_low name kept))

-- the digits of the digest
abbrev digits : List ℕ → List ℕ → List ℕ
digits name bytes = decimal_bytes (digest 0 (name ++ bytes))

lengths : (name bytes : List ℕ)
    → length (part_name [] name bytes) ≡ length (shortened name) + (length (digits name bytes) + 6)
unfolding part_name
lengths name bytes = simp length-append (omega arith)

pub part_length : (name bytes : List ℕ) → length (part_name [] name bytes) ≤ 126
part_length name bytes =
    omega (
      arith,
      lengths name bytes,
      shortened-length name,
      twenty_at-most (digest 0 (name ++ bytes)),
    )

pub short_whole : (name : List ℕ) → length name ≤ kept → shortened name ≡ name
unfolding shortened
short_whole name l =
    let e : cut_at name kept ≡ kept = cut_here name kept (rw (get_or-eq_default name 0 l)) in
    rw e (take_all kept name l)

pub part_other : (name bytes : List ℕ) → length name ≤ kept → part_name [] name bytes ≡ name → ⊥
part_other name bytes l e =
    omega (
      arith,
      lengths name bytes,
      ap length (short_whole name l),
      ap length e,
    )
