-- What a digest tells apart:
--     one_byte_apart   two texts that differ in one byte have other digests
-- Assumes nothing.
use Prim.Native.Nat.{ℕ, ◌+◌, ◌-◌, ◌*◌, ◌/◌, ◌%◌, ◌≤◌, ◌<◌}
use mathlib.Core.Path.{◌≡◌, refl, sym, ap, ◌∙◌}
use mathlib.Core.Bool.{Bool, true, false, not, ◌||◌}
use mathlib.Core.List.{List, [], ◌∷◌, ◌++◌}
use native.Mathlib.Omega.{arith}
use lib.Dec.{T, leb, eqb, eqb→eq}
use borrow.Author.Tests.{leb-true, leb-false, eq-eqb}
use Rattle.lists.proofs.Tables.{below}
use Rattle.part_names.specs.Parts.{wrap, mixed, digest}
use Rattle.part_names.proofs.Steps.{digest_then}

-- 251 and 2 ^ 56 share no divisor: of the first 251 multiples of 2 ^ 56, 251 divides 0 alone
abbrev undivided : ℕ → Bool
undivided k = not (eqb (k * wrap % 251) 0) || eqb k 0

only_none : (k : ℕ) → k < 251 → k * wrap % 251 ≡ 0 → k ≡ 0
only_none k l e =
    let t : T (eqb k 0) = rw (eq-eqb (k * wrap % 251) 0 e) at (below undivided 251 tt k l) in
    eqb→eq k 0 t

multiple : (d n : ℕ) → d * 251 ≡ n → n % 251 ≡ 0
multiple d n e = omega arith

none_apart : (d k : ℕ) → d < wrap → d * 251 ≡ k * wrap → d ≡ 0
none_apart d k l e =
    let z = only_none k (omega arith) (multiple d (k * wrap) e) in
    omega arith

-- so a step loses nothing of what is kept
step_back : (x y b q r : ℕ) → x < wrap → y < wrap → x * 251 + b + q * wrap ≡ y * 251 + b + r * wrap → x ≡ y
step_back x y b q r l m e =
    (elim (leb x y) as (λ t. leb x y ≡ t → x ≡ y) [
      | true ↦ λ h. let g : x ≤ y = leb-true x y h in
          omega (arith, none_apart (y - x) (q - r) (omega arith) (omega arith))
      | false ↦ λ h. let g : y < x = leb-false x y h in
          omega (arith, none_apart (x - y) (r - q) (omega arith) (omega arith))
    ])
    refl

-- what is kept decides
kept_back : (h g b : ℕ) → mixed h b % wrap ≡ mixed g b % wrap → h % wrap ≡ g % wrap
kept_back h g b e =
    step_back (h % wrap) (g % wrap) b (mixed g b / wrap) (mixed h b / wrap) (omega arith) (omega arith)
    (omega arith)

digest_back : (h g : ℕ) (s : List ℕ) → digest h s ≡ digest g s → h % wrap ≡ g % wrap
unfolding digest
digest_back h g [] e = ap (λ (n : ℕ). n % wrap) e
digest_back h g (b ∷ s) e = kept_back h g b (digest_back (mixed h b) (mixed g b) s e)

byte_back : (n a b : ℕ) → a < 256 → b < 256 → (n + a) % wrap ≡ (n + b) % wrap → a ≡ b
byte_back n a b l m e = omega arith

pub one_byte_apart : (p s : List ℕ) (a b : ℕ) → a < 256 → b < 256
    → digest 0 (p ++ a ∷ s) ≡ digest 0 (p ++ b ∷ s) → a ≡ b
unfolding digest
one_byte_apart p s a b l m e =
    let h = digest 0 p in
    let u : digest (mixed h a) s ≡ digest (mixed h b) s =
    digest_then 0 p (a ∷ s) ∙ e ∙ sym (digest_then 0 p (b ∷ s)) in
    byte_back (h % wrap * 251) a b l m (digest_back (mixed h a) (mixed h b) s u)
