-- There and back: what was packed is read as the same cells, and what was read is packed as the same bytes. A
-- reading looks at the board's own bytes only. Assumes nothing.
use mathlib.Core.Path.{◌≡◌, refl, ap, fun_ext}
use mathlib.Core.Bool.{Bool, true, false, ◌&&◌}
use mathlib.Core.List.{List, ◌++◌}
use Prim.Native.Nat.{ℕ, ◌+◌, ◌*◌, ◌/◌, ◌<◌, ◌≤◌}
use native.Mathlib.Omega.{arith}
use lib.Dec.{ltb}
use lib.IntN.{ℤ}
use lib.ListN.{length, take}
use lib.Seq.{sets, get_or-take}
use borrow.Author.Tests.{ltb-true}
use Rattle.lists.proofs.Each.{each_same}
use Rattle.board.specs.Geometry.{cells, mine_at, mines_in}
use Rattle.board.specs.Bits.{bit_at, of_bits, packed_byte, packed_length, packed}
use Rattle.board.proofs.Cells.{read_mines}
use Rattle.board.proofs.Same.{cells_same}
use Rattle.board.proofs.Packed.{unpacked, mines_in_same}

-- the cells of packed mines, whatever stands behind them
pub cells_back : (mine : ℕ → Bool) (h w : ℕ) (rest : List ℕ)
    → cells (bit_at (packed mine (h * w) ++ rest)) h w ≡ cells mine h w
cells_back mine h w rest =
    cells_same h w (bit_at (packed mine (h * w) ++ rest)) mine (unpacked mine (h * w) rest)

-- the packed bytes depend only on the mines of the board
module _ (p q : ℕ → Bool) (n : ℕ) (same : (k : ℕ) → k < n → p k ≡ q k) where
  bit-same : (k : ℕ) → (ltb k n && p k) ≡ (ltb k n && q k)
  bit-same k =
      (elim (ltb k n) as (λ t. ltb k n ≡ t → (t && p k) ≡ (t && q k))
      [ true ↦ λ e. same k (ltb-true k n e) | false ↦ λ e. refl ]) refl

  byte-same : (j : ℕ) → packed_byte p n j ≡ packed_byte q n j
  unfolding packed_byte
  byte-same j = ap (of_bits 8) (fun_ext (λ m. bit-same (j * 8 + m)))

  pub packed-same : packed p n ≡ packed q n
  unfolding packed
  packed-same = each_same (packed_length n) (packed_byte p n) (packed_byte q n) (λ j l. byte-same j)

-- a board that was read goes out as the mines that it was read from
pub packed_back : (mine : ℕ → Bool) (h w : ℕ) (d : List ℤ) → h * w ≤ length d
    → packed (mine_at (sets d 0 (cells mine h w))) (h * w) ≡ packed mine (h * w)
packed_back mine h w d l =
    packed-same (mine_at (sets d 0 (cells mine h w))) mine (h * w) (λ k. read_mines mine h w d k l)

-- the first packed_length n bytes decide the first n bits, and so the cells and the mines found
module _ (s : List ℕ) where
  pub bit-local : (n k : ℕ) → k < n → bit_at (take (packed_length n) s) k ≡ bit_at s k
  unfolding bit_at
  bit-local n k l = let h : k / 8 < packed_length n = omega arith in
      rw (get_or-take (packed_length n) s (k / 8) 0 h)

  pub cells-local : (h w : ℕ) → cells (bit_at (take (packed_length (h * w)) s)) h w ≡ cells (bit_at s) h w
  cells-local h w = cells_same h w (bit_at (take (packed_length (h * w)) s)) (bit_at s) (bit-local (h * w))

  pub mines-local : (n : ℕ) → mines_in (bit_at (take (packed_length n) s)) n ≡ mines_in (bit_at s) n
  mines-local n = mines_in_same (bit_at (take (packed_length n) s)) (bit_at s) n (bit-local n)
