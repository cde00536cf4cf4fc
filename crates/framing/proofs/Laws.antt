-- Laws of runs: how long they are, and what one unit more and the whole run leave in a buffer.
use Prim.Native.Nat.{ℕ, zero, suc, ◌+◌, ◌*◌, ◌≤◌, ◌<◌}
use mathlib.Core.Path.{◌≡◌, sym, ◌∙◌}
use mathlib.Core.List.{List, ◌++◌, append_assoc}
use native.Mathlib.Nat.{zero-add}
use native.Mathlib.Numerals.{add-one}
use native.Mathlib.Omega.{arith}
use lib.ListN.{length, length-append}
use lib.Seq.{sets}
use borrow.Author.Tests.{le-leb, lt-leb}
use Rattle.lists.proofs.Stores.{sets-append}
use Rattle.framing.specs.Expanding.{repeated, expanded, fitting, Put}

-- one unit more
pub one_more_lem : (n k : ℕ) → suc n * k ≡ n * k + k
one_more_lem n k = omega arith

pub length-repeated : (n : ℕ) (unit : List ℕ) → length (repeated n unit) ≡ n * length unit
length-repeated zero unit = omega arith
length-repeated (suc n) unit =
    length-append (repeated n unit) unit ∙ rw (length-repeated n unit) (sym (one_more_lem n (length unit)))

pub length-expanded : (first unit : List ℕ) (n : ℕ) (last : List ℕ)
    → length (expanded first unit n last) ≡ length first + (n * length unit + length last)
length-expanded first unit n last =
    length-append first (repeated n unit ++ last) ∙ rw (length-append (repeated n unit) last, length-repeated)

pub copy_more : (d : List ℕ) (from n : ℕ) (unit : List ℕ)
    → sets (sets d from (repeated n unit)) (from + n * length unit) unit ≡ sets d from (repeated (n + 1) unit)
copy_more d from n unit = rw (add-one, ← length-repeated n unit) (sets-append d from (repeated n unit) unit)

-- what was put, where there is room for all, and where there is none
pub put_all : (out bytes exit : List ℕ) (r : ℕ) → length bytes ≤ length out → exit ≡ sets out 0 bytes
    → r ≡ length bytes → Put out bytes exit r
unfolding fitting
put_all out bytes exit r h e q = record { bytes_are = rw (le-leb _ _ h) e; count_is = rw (le-leb _ _ h) q }

pub put_none : (out bytes : List ℕ) → length out < length bytes → Put out bytes out 0
unfolding fitting
put_none out bytes h = record { bytes_are = rw (lt-leb _ _ h); count_is = rw (lt-leb _ _ h) }

-- three stores in a row are one of the run
pub whole : (out first unit : List ℕ) (n : ℕ) (last : List ℕ)
    → sets (sets (sets out 0 first) (length first) (repeated n unit)) (length first + n * length unit) last
    ≡ sets out 0 (expanded first unit n last)
whole out first unit n last =
    let two : sets (sets out 0 first) (length first) (repeated n unit)
    ≡ sets out 0 (first ++ repeated n unit) =
    rw zero-add at (sets-append out 0 first (repeated n unit)) in
    let long : length first + n * length unit ≡ length (first ++ repeated n unit) =
    sym (length-append first (repeated n unit) ∙ rw length-repeated) in
    rw (two, long) (rw zero-add at (sets-append out 0 (first ++ repeated n unit) last) ∙ rw append_assoc)
