-- The flood of a board's cell: what holds at each turn of its loop, and what it comes to. Assumes nothing.
use mathlib.Core.Path.{◌≡◌, sym, ◌∙◌, ap, subst}
use mathlib.Core.Bool.{Bool, cond}
use mathlib.Core.List.{List}
use Prim.Native.Nat.{ℕ, ◌+◌, ◌-◌, ◌*◌, ◌<◌, ◌≤◌}
use native.Mathlib.Omega.{arith}
use lib.Dec.{eqb}
use lib.ListN.{length, get_or, set}
use Rattle.lists.specs.Lists.{each}
use Rattle.lists.proofs.Each.{length-each, each_same}
use Rattle.board.specs.Geometry.{neighbours}
use Rattle.flood.specs.Spread.{mem, size, reached}
use Rattle.flood.specs.Flood.{is_zero, covered, uncovered_cell, uncovered, Uncovers}
use Rattle.flood.specs.Pile.{pushed, turn}
use Rattle.flood.proofs.Sets.{size-le, each_get_d}
use Rattle.flood.proofs.Beside.{beside_on}
use Rattle.flood.proofs.Piles.{push_first, put_back}
use Rattle.flood.proofs.Flooding.{Flooding, finished, begins, turns, top-holds, flooded, flooded-size}
use Rattle.flood.proofs.Uncovered.{taken_is}

module _ (mine : ℕ → Bool) (h w : ℕ) where
  abbrev zeros : ℕ → Bool
  zeros = is_zero mine h w

  -- the flood of cell k, from the cells v
  pub record Progress (v : List ℕ) (k : ℕ) (work : List ℕ) (top took : ℕ) : Type 0 where
    pub flood : Flooding (h * w) (neighbours h w) zeros v k work top
    pub long : h * w ≤ length v
    pub within : k < h * w
    pub free : get_or v k 0 ≡ 0
    pub so_far : took + size (finished (h * w) v) ≡ size (finished (h * w) work)

  pub first-turn : (v : List ℕ) (k : ℕ) (p : List ℕ × ℕ) → h * w ≤ length v → k < h * w → get_or v k 0 ≡ 0 → p
      ≡ pushed (v, h * w) k
      → Progress (set p.0 k 0) k p.0 p.1 0
  first-turn v k p long within free e =
      let first : p.0 ≡ set v k (h * w + 3) =
      ap (λ (x : List ℕ × ℕ). x.0) (e ∙ push_first (h * w) k v free) in
      let b = begins (h * w) (neighbours h w) zeros v k long (beside_on h w) within free in
      subst (λ (u : List ℕ). Progress u k p.0 p.1 0)
      (sym (ap (λ (x : List ℕ). set x k 0) first ∙ put_back k (h * w + 3) v free))
      (subst (λ (x : List ℕ × ℕ). Progress v k x.0 x.1 0) (sym e)
      (record {
        flood = b.0;
        long = long;
        within = within;
        free = free;
        so_far =
            (let c = b.1 in omega arith);
      }))

  module _ (v : List ℕ) (k : ℕ) (work : List ℕ) (top took : ℕ) (g : Progress v k work top took) where
    pub progress-long : h * w ≤ length work
    progress-long = let e = g.flood.piled.len in let l = g.long in omega arith

    pub progress-top : top < h * w → (3 ≤ get_or work top 0) × (get_or work top 0 ≤ h * w + 3)
    progress-top l = top-holds (h * w) (neighbours h w) zeros v k g.long (beside_on h w) g.within
        g.free work top g.flood l

    -- no more cells than there are
    pub progress-few : took ≤ h * w
    progress-few =
        let a = g.so_far in
        let b = size-le (finished (h * w) work) in
        let c = length-each (h * w) (λ j. eqb (get_or work j 0) 2) in
        omega arith

    pub next-turn : (p : List ℕ × ℕ) → top < h * w → p ≡ turn (neighbours h w) zeros (work, top)
        → Progress v k p.0 p.1 (took + 1)
        × (h * w - size (finished (h * w) p.0) < h * w - size (finished (h * w) work))
    next-turn p l e =
        subst (λ (x : List ℕ × ℕ). Progress v k x.0 x.1 (took + 1)
        × (h * w - size (finished (h * w) x.0) < h * w - size (finished (h * w) work))) (sym e)
        (let q = turn (neighbours h w) zeros (work, top) in
        let t = turns (h * w) (neighbours h w) zeros v k g.long (beside_on h w) g.within g.free work
        top g.flood l in
        let a = g.so_far in
        let b = t.1 in
        let m = size-le (finished (h * w) q.0) in
        let n = length-each (h * w) (λ j. eqb (get_or q.0 j 0) 2) in (
          record { flood = t.0; long = g.long; within = g.within; free = g.free; so_far = omega arith },
          omega arith,
        ))

    pub last_turn : h * w ≤ top → Uncovers mine h w v k work took
    unfolding uncovered
    last_turn l =
        let s = reached (h * w) (neighbours h w) zeros (covered v) k in
        let on = beside_on h w in
        let at = flooded (h * w) (neighbours h w) zeros v k g.long on g.within g.free work top
        g.flood l in
        let many = flooded-size (h * w) (neighbours h w) zeros v k g.long on g.within g.free work top
        g.flood l in
        let is = taken_is mine h w v k g.long g.within g.free in
        let a = g.so_far in
        let few : took ≡ size s = omega arith in
        record {
          is = sym (each_get_d work 0)
              ∙ each_same (length work) (λ j. get_or work j 0) (λ j. cond (mem s j) uncovered_cell (get_or v j 0))
              (λ j b. at j)
              ∙ ap (λ (x : ℕ). each x (λ j. cond (mem s j) uncovered_cell (get_or v j 0))) g.flood.piled.len
              ∙ sym
              (ap (λ (x : List Bool). each (length v) (λ j. cond (mem x j) uncovered_cell (get_or v j 0)))
              is);
          many = few ∙ sym (ap size is);
        }
