-- The ones of a byte's first bits: the language's count under the mask is the count of the bits, at every
-- byte and every mask, by one computed test. And what a byte adds to the mines counted. Assumes nothing.
use mathlib.Core.Path.{◌≡◌, refl, ap, sym, ◌∙◌}
use mathlib.Core.Bool.{Bool, false, cond}
use mathlib.Core.List.{List, [], ◌∷◌}
use Prim.Native.Nat.{ℕ, zero, suc, ◌+◌, ◌-◌, ◌*◌, ◌/◌, ◌%◌, ◌^◌, ◌<◌, ◌≤◌}
use native.Mathlib.Nat.{add-zero, zero-div}
use native.Mathlib.Numerals.{add-one}
use native.Mathlib.Omega.{arith}
use lib.Bits.{bit_and}
use lib.Count.{ones, ones_in}
use lib.Dec.{eqb, eqb→eq}
use lib.ListN.{length, get_or, get_or-eq_default}
use Rattle.lists.specs.Lists.{each, count}
use Rattle.lists.proofs.Each.{each_more, length-each, count-append, count-le}
use Rattle.lists.proofs.Tables.{all_below, below}
use Rattle.board.specs.Geometry.{mines_in}
use Rattle.board.specs.Bits.{bit_of, bit_at}

-- the byte whose first r bits are set, for r from 0 to 8
abbrev pub masks : List ℕ
masks = 0 ∷ 0x80 ∷ 0xC0 ∷ 0xE0 ∷ 0xF0 ∷ 0xF8 ∷ 0xFC ∷ 0xFE ∷ 0xFF ∷ []

right_at : ℕ → ℕ → Bool
unfolding ones ones_in mines_in
right_at b r = eqb (ones (bit_and b (get_or masks r 0))) (mines_in (bit_of b) r)

right : ℕ → Bool
unfolding right_at
right b = all_below (right_at b) 9

pub counted : (b r : ℕ) → b < 256 → r < 9 → ones (bit_and b (get_or masks r 0)) ≡ mines_in (bit_of b) r
unfolding right
counted b r h l = eqb→eq _ _ (below (right_at b) 9 (below right 256 tt b h) r l)

-- one cell more
pub mines_in-more : (mine : ℕ → Bool) (n : ℕ) → mines_in mine (n + 1) ≡ mines_in mine n + cond (mine n) 1 0
unfolding mines_in
mines_in-more mine n =
    rw (each_more n (λ k. k))
    (count-append mine (each n (λ k. k)) (n ∷ []) ∙ ap (λ x. count mine (each n (λ k. k)) + x)
    (add-zero (cond (mine n) 1 0)))

pub mines_in-le : (mine : ℕ → Bool) (n : ℕ) → mines_in mine n ≤ n
unfolding mines_in
mines_in-le mine n = omega (arith, count-le mine (each n (λ k. k)), length-each n (λ k. k))

pub mines_in-none : (mine : ℕ → Bool) → mines_in mine 0 ≡ 0
unfolding mines_in
mines_in-none mine = refl

none : (bytes : List ℕ) (k : ℕ) → length bytes ≤ k / 8 → bit_at bytes k ≡ false
unfolding bit_at
none bytes k h = rw (get_or-eq_default bytes 0 h, zero-div (2 ^ (7 - k % 8)))

bit_in : (bytes : List ℕ) (i r : ℕ) → r < 8 → bit_at bytes (i * 8 + r) ≡ bit_of (get_or bytes i 0) r
unfolding bit_at
bit_in bytes i r h =
    let d : (i * 8 + r) / 8 ≡ i = omega arith in
    let m : (i * 8 + r) % 8 ≡ r = omega arith in
    rw (d, m)

-- the first r bits of byte i
pub bits_more : (bytes : List ℕ) (i r : ℕ) → r < 9
    → mines_in (bit_at bytes) (i * 8 + r) ≡ mines_in (bit_at bytes) (i * 8) + mines_in (bit_of (get_or bytes i 0)) r
bits_more bytes i zero h = rw add-zero (omega (arith, mines_in-none (bit_of (get_or bytes i 0))))
bits_more bytes i (suc r) h =
    let one : Bool → ℕ = λ t. cond t 1 0 in
    let B = bit_at bytes in
    let b = bit_of (get_or bytes i 0) in
    let s : i * 8 + suc r ≡ i * 8 + r + 1 = omega arith in
    let whole : mines_in B (i * 8 + suc r) ≡ mines_in B (i * 8 + r) + one (b r) =
    ap (mines_in B) s ∙ mines_in-more B (i * 8 + r) ∙ ap (λ t. mines_in B (i * 8 + r) + one t)
    (bit_in bytes i r (omega arith))
    in
    let part : mines_in b (suc r) ≡ mines_in b r + one (b r) =
    ap (mines_in b) (sym (add-one r)) ∙ mines_in-more b r in
    omega (arith, bits_more bytes i r (omega arith))

-- past the last byte nothing is left
pub silent : (bytes : List ℕ) (i k : ℕ) → length bytes ≤ i
    → mines_in (bit_at bytes) (i * 8 + k) ≡ mines_in (bit_at bytes) (i * 8)
silent bytes i zero h = rw add-zero
silent bytes i (suc k) h =
    let s : i * 8 + suc k ≡ i * 8 + k + 1 = omega arith in
    let B = bit_at bytes in
    ap (mines_in B) s ∙ mines_in-more B (i * 8 + k)
    ∙ omega (arith, silent bytes i k h, ap {B = ℕ} (λ t. cond t 1 0) (none bytes (i * 8 + k) (omega arith)))

-- a count of the first bytes that stopped at the last byte, or where it was told to
pub stopped : (bytes : List ℕ) (i left whole : ℕ) → left + i ≡ whole → (0 < left → length bytes ≤ i)
    → mines_in (bit_at bytes) (i * 8) ≡ mines_in (bit_at bytes) (whole * 8)
stopped bytes i zero whole e h = let q : i ≡ whole = omega arith in rw q
stopped bytes i (suc left) whole e h =
    let q : whole * 8 ≡ i * 8 + suc left * 8 = omega arith in
    rw q (sym (silent bytes i (suc left * 8) (h (omega arith))))

-- a turn of the code: x is the ones among the first r bits of the byte b that stands at i
pub added : (bytes : List ℕ) (i r n sum b x : ℕ) → sum ≡ mines_in (bit_at bytes) (i * 8) → b ≡ get_or bytes i 0
    → x ≡ mines_in (bit_of b) r
    → n ≡ i * 8 + r → r < 9 → sum + x ≡ mines_in (bit_at bytes) n
added bytes i r n sum b x s f e m h = rw (s, e, f, m) (sym (bits_more bytes i r h))
