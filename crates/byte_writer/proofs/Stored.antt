-- A number stored byte by byte, the last byte first: with i bytes to go, the k - i bytes behind them stand in
-- the buffer. Assumes nothing.
use mathlib.Core.Path.{◌≡◌, ◌∙◌}
use mathlib.Core.List.{List}
use Prim.Native.Nat.{ℕ, suc, ◌+◌, ◌-◌, ◌/◌, ◌%◌, ◌^◌, ◌<◌, ◌≤◌}
use native.Mathlib.Nat.{pow-suc, div-div-eq-div-mul}
use native.Mathlib.Omega.{arith}
use lib.ListN.{set}
use lib.Seq.{sets}
use Rattle.lists.proofs.Stores.{sets-before}
use Rattle.byte_reader.specs.Numbers.{bytes_of}

pub record Put (d : List ℕ) (at k v : ℕ) (out : List ℕ) (rest i : ℕ) : Type 0 where
  pub to_go : i ≤ k
  pub left : rest ≡ v / 256 ^ (k - i)
  pub stored : out ≡ sets d (at + i) (bytes_of (k - i) v)

module _ (d : List ℕ) (at k v : ℕ) where
  pub put_none : Put d at k v d v k
  put_none = let z : k - k ≡ 0 = omega arith in
      record { to_go = omega arith; left = rw z (omega arith); stored = rw z }

  module _ {out : List ℕ} {rest i : ℕ} (p : Put d at k v out rest i) where
    pub put_more : (out' : List ℕ) → 0 < i → out' ≡ set out (at + (i - 1)) (rest % 256)
        → Put d at k v out' (rest / 256) (i - 1)
    put_more out' h e =
        let s : k - (i - 1) ≡ suc (k - i) = omega (arith, p.to_go) in
        let a : at + i ≡ suc (at + (i - 1)) = omega arith in
        record {
          to_go = omega (arith, p.to_go);
          left = rw (p.left, s, pow-suc) (div-div-eq-div-mul v (256 ^ (k - i)) 256);
          stored = e ∙ rw (p.stored, p.left, s, a)
              (sets-before d (at + (i - 1)) (v / 256 ^ (k - i) % 256) (bytes_of (k - i) v));
        }

    pub put_all : i ≤ 0 → out ≡ sets d at (bytes_of k v)
    put_all h =
        let z : i ≡ 0 = omega arith in
        let y : at + 0 ≡ at = omega arith in
        let x : k - 0 ≡ k = omega arith in
        p.stored ∙ rw (z, y, x)
