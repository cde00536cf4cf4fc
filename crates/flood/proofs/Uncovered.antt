-- Laws of what uncovering takes and leaves. Assumes nothing.
--     taken_is, taken-short, taken-off, taken_not   the set, by what holds of cell k and the buffer
--     uncovers-nothing    where nothing is taken nothing is changed
--     length-uncovered, uncovered-past    the buffer keeps its length, and what stands behind the board
use mathlib.Core.Path.{◌≡◌, refl, sym, ◌∙◌, ap}
use mathlib.Core.Bool.{Bool, true, false, cond, ◌&&◌}
use mathlib.Core.List.{List, []}
use Prim.Native.Nat.{ℕ, ◌*◌, ◌<◌, ◌≤◌}
use native.Mathlib.Omega.{arith}
use lib.Dec.{leb, ltb}
use lib.ListN.{length, get_or, drop, get_or-eq_default}
use borrow.Author.Tests.{le-leb, lt-leb, lt-ltb, le-ltb, ltb-true, eq-eqb, ne_eqb}
use Rattle.lists.specs.Lists.{each}
use Rattle.lists.proofs.Each.{length-each}
use Rattle.board.specs.Geometry.{neighbours}
use Rattle.flood.specs.Spread.{mem, size, reached}
use Rattle.flood.specs.Flood.{is_zero, covered, uncovered_cell, taken, uncovered, Uncovers}
use Rattle.flood.proofs.Sets.{and_cases, each_get_d, drop-each}
use Rattle.flood.proofs.Settle.{reached-length}

module _ (mine : ℕ → Bool) (h w : ℕ) (cells : List ℕ) (k : ℕ) where
  abbrev set-of : List Bool
  set-of = reached (h * w) (neighbours h w) (is_zero mine h w) (covered cells) k

  pub taken_is : h * w ≤ length cells → k < h * w → get_or cells k 0 ≡ 0 → taken mine h w cells k ≡ set-of
  unfolding taken
  taken_is a b e = rw (le-leb (h * w) (length cells) a, lt-ltb k (h * w) b, eq-eqb (get_or cells k 0) 0 e)

  pub taken-short : length cells < h * w → taken mine h w cells k ≡ []
  unfolding taken
  taken-short a = rw (lt-leb (h * w) (length cells) a)

  pub taken-off : h * w ≤ length cells → h * w ≤ k → taken mine h w cells k ≡ []
  unfolding taken
  taken-off a b = rw (le-leb (h * w) (length cells) a, le-ltb k (h * w) b)

  pub taken_not : h * w ≤ length cells → k < h * w → (get_or cells k 0 ≡ 0 → ⊥) → taken mine h w cells k ≡ []
  unfolding taken
  taken_not a b e = rw (le-leb (h * w) (length cells) a, lt-ltb k (h * w) b, ne_eqb (get_or cells k 0) 0 e)

  -- nothing taken, nothing changed
  pub uncovers-nothing : taken mine h w cells k ≡ [] → Uncovers mine h w cells k cells 0
  unfolding uncovered
  uncovers-nothing e = record {
    is =
        sym
        (ap (λ (s : List Bool). each (length cells) (λ j. cond (mem s j) uncovered_cell (get_or cells j 0))) e
        ∙ each_get_d cells 0);
    many = sym (ap size e);
  }

  pub length-uncovered : length (uncovered mine h w cells k) ≡ length cells
  unfolding uncovered
  length-uncovered = length-each (length cells)
      (λ j. cond (mem (taken mine h w cells k) j) uncovered_cell (get_or cells j 0))

  taken-past : (j : ℕ) → h * w ≤ j → mem (taken mine h w cells k) j ≡ false
  unfolding taken
  taken-past j g =
      (elim (leb (h * w) (length cells) && (ltb k (h * w) && covered cells k)) as (λ t.
      (leb (h * w) (length cells) && (ltb k (h * w) && covered cells k)) ≡ t → mem (cond t set-of []) j
      ≡ false) [
        | true ↦ λ q.
            let l =
            ltb-true k (h * w)
            (and_cases (ltb k (h * w)) (covered cells k)
            (and_cases (leb (h * w) (length cells)) _ q).1).0 in
            let e = reached-length (h * w) (neighbours h w) (is_zero mine h w) (covered cells) k l in
            get_or-eq_default set-of false (omega arith)
        | false ↦ λ q. refl
      ]) refl

  -- entries past the board are as they were
  pub uncovered-past : drop (h * w) (uncovered mine h w cells k) ≡ drop (h * w) cells
  unfolding uncovered
  uncovered-past =
      drop-each (h * w) (length cells)
      (λ j. cond (mem (taken mine h w cells k) j) uncovered_cell (get_or cells j 0)) (λ j. get_or cells j 0)
      (λ j g. ap (λ (t : Bool). cond t uncovered_cell (get_or cells j 0)) (taken-past j g))
      ∙ ap (drop (h * w)) (each_get_d cells 0)
