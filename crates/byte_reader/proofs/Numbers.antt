-- The one law of the number widths: one more byte, and the bound of k bytes. Assumes nothing.
use mathlib.Core.Path.{◌≡◌, refl}
use mathlib.Core.List.{List, [], ◌∷◌, ◌++◌}
use Prim.Native.Nat.{ℕ, suc, ◌+◌, ◌*◌, ◌^◌, ◌<◌, ◌≤◌, zero-le}
use lib.Dec.{lit<}
use native.Mathlib.Numerals.{add-one}
use native.Mathlib.Nat.{pow-suc, pow-le-pow_right}
use native.Mathlib.Omega.{arith}
use lib.ListN.{length, get_or, take, drop, length-drop}
use lib.Seq.{take-suc, get_or-drop}
use borrow.Author.Tests.{lt-leb, le-leb}
use Rattle.byte_reader.specs.Reading.{ok, no}
use Rattle.byte_reader.specs.Numbers.{followed_by, big_endian, number}

snoc : (v : ℕ) (xs : List ℕ) (b : ℕ) → followed_by v (xs ++ (b ∷ [])) ≡ followed_by v xs * 256 + b
snoc v [] b = refl
snoc v (x ∷ xs) b = snoc (v * 256 + x) xs b

pub one_more_lem : (file : List ℕ) (at i : ℕ) → at + i < length file
    → big_endian (take (i + 1) (drop at file)) ≡ big_endian (take i (drop at file)) * 256 + get_or file (at + i) 0
unfolding big_endian
one_more_lem file at i h =
    let l : i < length (drop at file) = simp length-drop (omega arith) in
    rw (add-one, take-suc (drop at file) i 0 l, snoc, get_or-drop)

-- i bytes are below 256 ^ i, and up to eight of them fit 64 bits
pub grown : (v i b : ℕ) → v < 256 ^ i → b < 256 → v * 256 + b < 256 ^ (i + 1)
grown v i b h l = rw (add-one, pow-suc) (omega arith)

pub room : (v i k : ℕ) → v < 256 ^ i → i < k → k ≤ 8 → v * 256 + 256 ≤ 2 ^ 64
room v i k h l e =
    let one : ◌<◌ 0 256 = omega arith in
    let m : 256 ^ suc i ≤ 256 ^ 8 = let l : suc i ≤ 8 = omega arith in pow-le-pow_right one l in
    omega (arith, rw pow-suc at m)

-- the two cases of a field
module _ (k : ℕ) (file : List ℕ) (at : ℕ) where
  pub short : length file < at + k → number k file at ≡ no 1
  unfolding number
  short h = rw (lt-leb _ _ h)

  pub whole : at + k ≤ length file → number k file at ≡ ok (big_endian (take k (drop at file))) (at + k)
  unfolding number
  whole h = rw (le-leb _ _ h)

pub some_below : (k : ℕ) → 0 < 256 ^ k
some_below k = let one : ◌≤◌ (256 ^ 0) (256 ^ k) = pow-le-pow_right (lit< tt) zero-le in one
