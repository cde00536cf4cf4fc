-- What an lr opens is what the flood takes. Assumes nothing.
--     reached-same    only cells of the board count for what is reached
--     opened-taken    the machine's set is the flood's, where the lent cells are the machine's
use mathlib.Core.Path.{◌≡◌, refl, sym, ◌∙◌, ap}
use mathlib.Core.Bool.{Bool, ◌&&◌, ◌||◌}
use mathlib.Core.List.{List}
use Prim.Native.Nat.{ℕ, zero, suc, ◌*◌, ◌<◌, ◌≤◌}
use lib.Dec.{eqb}
use lib.ListN.{length, get_or}
use Rattle.lists.specs.Lists.{each}
use Rattle.lists.proofs.Each.{each_same}
use Rattle.board.specs.Geometry.{neighbours}
use Rattle.flood.specs.Spread.{has, mem, some, round, rounds, reached}
use Rattle.flood.specs.Flood.{is_zero, covered as covered_at, taken}
use Rattle.flood.proofs.Uncovered.{taken_is}
use Rattle.machine.specs.Machine.{Cell, covered, flagged, uncovered, is_covered, cell_at, opened}
use Rattle.machine.specs.Answers.{entry_of}

module _ (n : ℕ) (next : ℕ → List ℕ) (spreads free free' : ℕ → Bool)
    (same : (j : ℕ) → j < n → free j ≡ free' j) where
  round_same : (s : List Bool) → round n next spreads free s ≡ round n next spreads free' s
  unfolding round
  round_same s =
      each_same n
      (λ j. mem s j || (free j && some (λ i. mem s i && spreads i && has (next i) j) n))
      (λ j. mem s j || (free' j && some (λ i. mem s i && spreads i && has (next i) j) n))
      (λ j l. ap (λ (b : Bool). mem s j || (b && some (λ i. mem s i && spreads i && has (next i) j) n))
      (same j l))

  rounds-same : (t : ℕ) (s : List Bool) → rounds n next spreads free t s ≡ rounds n next spreads free' t s
  unfolding rounds
  rounds-same zero s = refl
  rounds-same (suc t) s = ap (round n next spreads free) (rounds-same t s)
      ∙ round_same (rounds n next spreads free' t s)

  pub reached-same : (k : ℕ) → reached n next spreads free k ≡ reached n next spreads free' k
  unfolding reached
  reached-same k = rounds-same n (each n _)

-- an entry is 0 exactly for a covered cell
entry_free : (c : Cell) → eqb (entry_of c) 0 ≡ is_covered c
entry_free covered = refl
entry_free flagged = refl
entry_free uncovered = refl

-- lent cells that are the machine's
module _ (mine : ℕ → Bool) (h w : ℕ) (cells : List ℕ) (s : List Cell)
    (on : (j : ℕ) → j < h * w → get_or cells j 0 ≡ entry_of (cell_at s j)) where
  pub free-same : (j : ℕ) → j < h * w → covered_at cells j ≡ is_covered (cell_at s j)
  free-same j l = ap (λ (n : ℕ). eqb n 0) (on j l) ∙ entry_free (cell_at s j)

  pub opened-taken : (k : ℕ) → h * w ≤ length cells → k < h * w → get_or cells k 0 ≡ 0
      → opened mine h w s k ≡ taken mine h w cells k
  unfolding opened
  opened-taken k room l e =
      sym
      (taken_is mine h w cells k room l e
      ∙ reached-same (h * w) (neighbours h w) (is_zero mine h w) (covered_at cells)
      (λ j. is_covered (cell_at s j)) free-same k)
