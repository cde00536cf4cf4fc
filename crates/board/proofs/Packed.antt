-- Packing and unpacking: bit k of the packed bytes is cell k's mine, and 0 from the last cell on. Assumes
-- nothing.
use mathlib.Core.Path.{◌≡◌, refl, ap, sym, ◌∙◌, fun_ext}
use mathlib.Core.Bool.{Bool, true, false, cond, ◌&&◌}
use mathlib.Core.List.{List, [], ◌++◌, append-nil}
use mathlib.Core.Logic.{⊎_elim}
use Prim.Native.Nat.{ℕ, zero, suc, ◌+◌, ◌-◌, ◌*◌, ◌/◌, ◌%◌, ◌^◌, ◌<◌, ◌≤◌, min}
use native.Mathlib.Nat.{suc-add, zero-add, zero-div, pow-succ', div-one, div-div-eq-div-mul}
use native.Mathlib.Numerals.{add-one}
use native.Mathlib.Omega.{arith}
use lib.Dec.{ltb, eqb}
use lib.ListN.{length, get_or, take, get_or-append, get_or-eq_default}
use lib.IntN.{ℤ, pos}
use lib.Seq.{get_or-take}
use lib.Pow.{pow_mono}
use borrow.Author.Tests.{lt-ltb, le-ltb}
use Rattle.std.proofs.lemmas.List.{length-take}
use Rattle.lists.proofs.Each.{length-each, getD-each}
use Rattle.board.specs.Geometry.{mine_at, mines_in}
use Rattle.board.specs.Bits.{bit_of, bit_at, of_bits, packed_byte, packed_length, packed}
use Rattle.board.proofs.Places.{lt-or_ge}
use Rattle.board.proofs.Ones.{mines_in-none, mines_in-more}

one_or-none : (b : Bool) → cond b 1 0 ≤ 1
one_or-none true = omega arith
one_or-none false = omega arith

-- A NUMBER FROM ITS BITS

module _ (p : ℕ → Bool) where
  pub ofBits-more : (k : ℕ) → of_bits (k + 1) p ≡ of_bits k p * 2 + cond (p k) 1 0
  ofBits-more k = rw add-one

  pub ofBits-lt : (k : ℕ) → of_bits k p < 2 ^ k
  ofBits-lt zero = omega arith
  ofBits-lt (suc k) = rw (pow-succ' 2 k) (omega (arith, ofBits-lt k, one_or-none (p k)))

  -- there is room for one bit more in a byte
  pub room : (k : ℕ) → k < 8 → of_bits k p < 128
  room k l =
      let le : k ≤ 7 = omega arith in
      let e : 2 ^ k ≤ 2 ^ 7 = pow_mono le in
      omega (arith, ofBits-lt k)

  high : (t k : ℕ) → of_bits (t + k) p / 2 ^ t ≡ of_bits k p
  high zero k = rw (zero-add k) (div-one (of_bits k p))
  high (suc t) k =
      let x = of_bits (t + k) p in
      let b : ℕ = cond (p (t + k)) 1 0 in
      let e : (x * 2 + b) / 2 ≡ x = omega (arith, one_or-none (p (t + k))) in
      rw (suc-add t k, pow-succ' 2 t, ← div-div-eq-div-mul (x * 2 + b) 2 (2 ^ t), e) (high t k)

  bit : (m : ℕ) → m < 8 → of_bits 8 p / 2 ^ (7 - m) % 2 ≡ cond (p m) 1 0
  bit m l =
      let e : 8 ≡ (7 - m) + suc m = omega arith in
      ap (λ k. of_bits k p / 2 ^ (7 - m) % 2) e ∙ ap (λ x. x % 2) (high (7 - m) (suc m))
      ∙ omega (arith, one_or-none (p m))

  test : (b : Bool) → eqb (cond b 1 0) 1 ≡ b
  test true = refl
  test false = refl

  bit-of : (m : ℕ) → m < 8 → bit_of (of_bits 8 p) m ≡ p m
  bit-of m l = rw (bit m l) (test (p m))

-- THE PACKED BOARD

module _ (mine : ℕ → Bool) (n : ℕ) where
  pub length-packed : length (packed mine n) ≡ (n + 7) / 8
  unfolding packed
  length-packed = length-each (packed_length n) (packed_byte mine n)

  pub byte_small : (j : ℕ) → packed_byte mine n j < 256
  unfolding packed_byte
  byte_small j = ofBits-lt (λ m. ltb (j * 8 + m) n && mine (j * 8 + m)) 8

  getD-packed : (j : ℕ) → j < packed_length n → get_or (packed mine n) j 0 ≡ packed_byte mine n j
  unfolding packed
  getD-packed j l = getD-each (packed_length n) j (packed_byte mine n) 0 l

  past : (j : ℕ) → packed_length n ≤ j → get_or (packed mine n) j 0 ≡ 0
  past j g =
      let l : length (packed mine n) ≤ j = omega (arith, length-packed) in
      get_or-eq_default (packed mine n) 0 l

  -- every packed byte is a byte
  pub packed-small : (j : ℕ) → get_or (packed mine n) j 0 < 256
  packed-small j =
      ⊎_elim (λ l. rw (getD-packed j l) (byte_small j))
      (λ g. rw (past j g) (omega arith))
      (lt-or_ge j (packed_length n))

  byte-bit : (k : ℕ) → bit_of (packed_byte mine n (k / 8)) (k % 8) ≡ (ltb k n && mine k)
  unfolding packed_byte
  byte-bit k =
      let e : k / 8 * 8 + k % 8 ≡ k = omega arith in
      bit-of (λ m. ltb (k / 8 * 8 + m) n && mine (k / 8 * 8 + m)) (k % 8) (omega arith)
      ∙ ap (λ x. ltb x n && mine x) e

  -- in the packed bytes, whatever stands behind them
  bit_in : (rest : List ℕ) (k : ℕ) → k / 8 < packed_length n
      → bit_at (packed mine n ++ rest) k ≡ (ltb k n && mine k)
  unfolding bit_at
  bit_in rest k l =
      rw
      (get_or-append (packed mine n) rest 0 (k / 8) (omega (arith, length-packed)), getD-packed (k / 8) l)
      (byte-bit k)

  -- unpacking what was packed gives the same mines
  pub unpacked : (rest : List ℕ) (k : ℕ) → k < n → bit_at (packed mine n ++ rest) k ≡ mine k
  unpacked rest k l = bit_in rest k (omega arith) ∙ rw (lt-ltb k n l)

  -- pad bits are 0
  pub pad-zero : (rest : List ℕ) (k : ℕ) → n ≤ k → k / 8 < (n + 7) / 8
      → bit_at (packed mine n ++ rest) k ≡ false
  pad-zero rest k g l = bit_in rest k l ∙ rw (le-ltb k n g)

  -- .. and so are all bits behind the packed bytes, where nothing follows them
  pub past-zero : (k : ℕ) → n ≤ k → bit_at (packed mine n) k ≡ false
  unfolding bit_at
  past-zero k g =
      ⊎_elim (λ l. ap (λ b. bit_at b k) (sym (append-nil (packed mine n))) ∙ pad-zero [] k g l)
      (λ m. rw (past (k / 8) m, zero-div (2 ^ (7 - k % 8))))
      (lt-or_ge (k / 8) (packed_length n))

-- the mines of a board's first n cells, and as many of them as there are
module _ (board : List ℤ) (n m : ℕ) (is : m ≡ min n (length board)) where
  mine_first : (k : ℕ) → mine_at (take m board) k ≡ (ltb k n && mine_at board k)
  unfolding mine_at
  mine_first k =
      ⊎_elim
      (λ l. let h : k < n = omega arith in rw (get_or-take m board k (pos 0) l, lt-ltb k n h))
      (λ g.
      let short : length (take m board) ≤ k = omega (arith, length-take m board) in
      rw (get_or-eq_default (take m board) (pos 0) short)
      (⊎_elim
      (λ l. let none : length board ≤ k = omega arith in
      rw (lt-ltb k n l, get_or-eq_default board (pos 0) none))
      (λ h. rw (le-ltb k n h))
      (lt-or_ge k n)))
      (lt-or_ge k m)

  pub byte_first : (j : ℕ) → of_bits 8 (λ i. mine_at (take m board) (j * 8 + i)) ≡ packed_byte (mine_at board) n j
  unfolding packed_byte
  byte_first j = ap (of_bits 8) (fun_ext (λ i. mine_first (j * 8 + i)))

-- the same mines, as many
pub mines_in_same : (p q : ℕ → Bool) (n : ℕ) → ((k : ℕ) → k < n → p k ≡ q k) → mines_in p n ≡ mines_in q n
mines_in_same p q zero h = mines_in-none p ∙ sym (mines_in-none q)
mines_in_same p q (suc n) h =
    ap (mines_in p) (sym (add-one n))
    ∙ mines_in-more p n
    ∙ rw (mines_in_same p q n (λ k l. h k (omega arith)), h n (omega arith)) (sym (mines_in-more q n))
    ∙ ap (mines_in q) (add-one n)

pub packed_mines : (mine : ℕ → Bool) (n : ℕ) (rest : List ℕ)
    → mines_in (bit_at (packed mine n ++ rest)) n ≡ mines_in mine n
packed_mines mine n rest = mines_in_same (bit_at (packed mine n ++ rest)) mine n (unpacked mine n rest)
