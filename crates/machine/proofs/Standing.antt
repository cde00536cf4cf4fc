-- Position and lent cells that are those of the machine's game, and what rc and pf make of them. Assumes
-- nothing.
use mathlib.Core.Path.{◌≡◌, refl, sym, ◌∙◌, ap}
use mathlib.Core.Logic.{⊎_elim}
use mathlib.Core.Bool.{Bool, false, not, ◌&&◌}
use mathlib.Core.List.{List}
use Prim.Native.Nat.{ℕ, ◌*◌, ◌<◌, ◌≤◌}
use native.Mathlib.Omega.{arith}
use lib.ListN.{length, get_or, set, drop, length-set}
use lib.Seq.{get_or-set_same, get_or-set_other, drop-set-lt}
use Rattle.lists.specs.Lists.{each}
use Rattle.lists.proofs.Each.{each_same}
use Rattle.flood.specs.Spread.{size}
use Rattle.flood.proofs.Sets.{same_or_not}
use Rattle.moves.specs.declared.Played.{Played}
use Rattle.moves.specs.declared.Position.{Position}
use Rattle.machine.specs.Machine.{Cell, covered, flagged, uncovered, undecided, Game}
use Rattle.machine.specs.Machine.{is_uncovered, cell_at, swapped, hit, to_do}
use Rattle.machine.specs.Machine.{marked}
use Rattle.machine.specs.Answers.{entry_of, answer_of}
use Rattle.moves.specs.Moves.{swapped_entry, flagged_at}
use Rattle.moves.proofs.Steps.{flagged-at}

-- h rows of w cells with these mines, each so many pixels wide and high, and the lent cells before the play
module _ (mine : ℕ → Bool) (h w pixels : ℕ) (before : List ℕ) where
  abbrev pub at : ℕ → Played → Position
  at left stands = record { height = h; width = w; pixels = pixels; left = left; stands = stands }

  -- position and lent cells are those of the machine's game: the first h * w entries are its cells, those
  -- behind are as they were; while it is undecided no mine is uncovered, and `left` counts what is to do
  pub record Stands (g : Game) (p : Position) (cells : List ℕ) : Type 0 where
    pub left : ℕ
    pub is : p ≡ at left (answer_of g.verdict)
    pub many : length g.cells ≡ h * w
    pub long : length cells ≡ length before
    pub on : (j : ℕ) → j < h * w → get_or cells j 0 ≡ entry_of (cell_at g.cells j)
    pub past : drop (h * w) cells ≡ drop (h * w) before
    pub safe : g.verdict ≡ undecided → (j : ℕ) → j < h * w → hit mine h w g.cells j ≡ false
    pub count : g.verdict ≡ undecided → left ≡ size (each (h * w) (to_do mine h w g.cells))

  -- RC AND PF

  swapped-entry : (c : Cell) (n : ℕ) → n ≡ entry_of c → swapped_entry n ≡ entry_of (swapped c)
  swapped-entry covered n e = rw e
  swapped-entry flagged n e = rw e
  swapped-entry uncovered n e = rw e

  swapped-sight : (c : Cell) → is_uncovered (swapped c) ≡ is_uncovered c
  swapped-sight covered = refl
  swapped-sight flagged = refl
  swapped-sight uncovered = refl

  module _ (room : h * w ≤ length before) (g : Game) (p : Position) (cells : List ℕ) (s : Stands g p cells)
      (k : ℕ) (l : k < h * w) where
    abbrev old : ℕ → Cell
    old j = cell_at g.cells j

    abbrev new : ℕ → Cell
    new j = cell_at (marked g k).cells j

    new-at : new k ≡ swapped (old k)
    new-at = let m = s.many in get_or-set_same g.cells k (swapped (old k)) covered (omega arith)

    new-other : (j : ℕ) → (j ≡ k → ⊥) → new j ≡ old j
    new-other j d = get_or-set_other g.cells k j (swapped (old k)) covered d

    sight : (j : ℕ) → is_uncovered (new j) ≡ is_uncovered (old j)
    sight j =
        ⊎_elim
        (λ e. rw e (ap is_uncovered new-at ∙ swapped-sight (old k)))
        (λ d. ap is_uncovered (new-other j d))
        (same_or_not j k)

    pub mark_on : Stands (marked g k) p (flagged_at (h * w) cells k)
    mark_on = record {
      left = s.left;
      is = s.is;
      many = length-set g.cells k (swapped (old k)) ∙ s.many;
      long = ap length flag ∙ length-set cells k entry ∙ s.long;
      on = λ j b. ap (λ (l : List ℕ). get_or l j 0) flag ∙ ⊎_elim
          (λ e. rw e
          (get_or-set_same cells k entry 0 (let m = s.long in omega arith)
          ∙ swapped-entry (old k) (get_or cells k 0) (s.on k l) ∙ sym (ap entry_of new-at)))
          (λ d. get_or-set_other cells k j entry 0 d ∙ s.on j b ∙ sym (ap entry_of (new-other j d)))
          (same_or_not j k);
      past = ap (drop (h * w)) flag ∙ drop-set-lt (h * w) cells k entry l ∙ s.past;
      safe = λ u j b. ap (λ (t : Bool). mine j && t) (sight j) ∙ s.safe u j b;
      count = λ u. s.count u
          ∙ sym (ap size (each_same (h * w) (to_do mine h w (marked g k).cells) (to_do mine h w g.cells)
          (λ j b. ap (λ (t : Bool). not (mine j) && not t) (sight j))));
    }
      where
        entry : ℕ
        entry = swapped_entry (get_or cells k 0)

        flag : flagged_at (h * w) cells k ≡ set cells k entry
        flag = flagged-at (h * w) cells k l
