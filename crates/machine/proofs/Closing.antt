-- An lr uncovers exactly the inductive closure (specs/Closure.antt). Assumes nothing.
--     opens_in, in_opens    the set that the machine opens is the closure
--     uncovers              each cell of it is uncovered then, and every other is as it was
use mathlib.Core.Path.{◌≡◌, refl, ◌∙◌, ap}
use mathlib.Core.Logic.{⊎_elim}
use mathlib.Core.Bool.{Bool, true, cond, false≢true}
use mathlib.Core.List.{List}
use Prim.Native.Nat.{ℕ, ◌*◌, ◌<◌}
use Rattle.lists.proofs.Each.{getD-each}
use Rattle.board.specs.Geometry.{neighbours}
use Rattle.flood.specs.Spread.{mem, Linked, start, step}
use Rattle.flood.specs.Flood.{is_zero}
use Rattle.flood.proofs.Sets.{true_or_false}
use Rattle.flood.proofs.Settle.{reached-linked, linked-reached, reached-below}
use Rattle.flood.proofs.Beside.{beside_on}
use Rattle.machine.specs.Machine.{Cell, covered, flagged, uncovered, is_covered, cell_at, opened}
use Rattle.machine.specs.Machine.{uncovering}
use Rattle.machine.specs.Closure.{Opens, clicked, beside, UncoversExactly}

is_free : (c : Cell) → is_covered c ≡ true → c ≡ covered
is_free covered e = refl
is_free flagged e = absurd (false≢true e)
is_free uncovered e = absurd (false≢true e)

module _ (mine : ℕ → Bool) (h w : ℕ) (cells : List Cell) (k : ℕ) where
  abbrev free : ℕ → Bool
  free j = is_covered (cell_at cells j)

  linked-opens : {j : ℕ} → Linked (neighbours h w) (is_zero mine h w) free k j → Opens mine h w cells k j
  linked-opens start = clicked
  linked-opens (step i j l z b f) = beside i j (linked-opens l) z b (is_free (cell_at cells j) f)

  opens-linked : {j : ℕ} → Opens mine h w cells k j → Linked (neighbours h w) (is_zero mine h w) free k j
  opens-linked clicked = start
  opens-linked (beside i j o z b c) = step i j (opens-linked o) z b (ap is_covered c)

  module _ (on : k < h * w) where
    pub in_opens : (j : ℕ) → mem (opened mine h w cells k) j ≡ true → Opens mine h w cells k j
    unfolding opened
    in_opens j e =
        linked-opens (reached-linked (h * w) (neighbours h w) (is_zero mine h w) free k on j e)

    pub opens_in : (j : ℕ) → Opens mine h w cells k j → mem (opened mine h w cells k) j ≡ true
    unfolding opened
    opens_in j o =
        linked-reached (h * w) (neighbours h w) (is_zero mine h w) free k on (beside_on h w) j (opens-linked o)

    opens-on : (j : ℕ) → Opens mine h w cells k j → j < h * w
    unfolding opened
    opens-on j o =
        reached-below (h * w) (neighbours h w) (is_zero mine h w) free k on j (opens_in j o)

    seen : (j : ℕ) → j < h * w → cell_at (uncovering mine h w cells k) j
        ≡ cond (mem (opened mine h w cells k) j) uncovered (cell_at cells j)
    unfolding uncovering
    seen j l =
        getD-each (h * w) j (λ i. cond (mem (opened mine h w cells k) i) uncovered (cell_at cells i)) covered l

    pub uncovers : UncoversExactly mine h w cells k
    uncovers = record {
      opens = λ j o. seen j (opens-on j o)
          ∙ ap (λ (t : Bool). cond t uncovered (cell_at cells j)) (opens_in j o);
      stays = λ j l not. seen j l ∙ ⊎_elim
          (λ t. absurd (not (in_opens j t)))
          (λ f. ap (λ (t : Bool). cond t uncovered (cell_at cells j)) f)
          (true_or_false (mem (opened mine h w cells k) j));
    }
