-- Playing one event more is one move more. Assumes nothing.
--     one_more       behind a row
--     after-each     so that the first n entries of a row give the board after event n
use mathlib.Core.Path.{◌≡◌, refl, ◌∙◌, ap}
use mathlib.Core.Bool.{Bool}
use mathlib.Core.List.{List, [], ◌∷◌, ◌++◌, foldl}
use Prim.Native.Nat.{ℕ, suc, ◌<◌}
use lib.ListN.{length, get_or, take}
use lib.Seq.{take-suc}
use Rattle.game.specs.declared.Event.{Event}
use Rattle.machine.specs.Machine.{Game, move, played}

module _ (mine : ℕ → Bool) (h w pixels : ℕ) where
  fold-last : (row : List Event) (g : Game) (e : Event)
      → foldl (move mine h w pixels) g (row ++ e ∷ [])
      ≡ move mine h w pixels (foldl (move mine h w pixels) g row) e
  fold-last [] g e = refl
  fold-last (f ∷ row) g e = fold-last row (move mine h w pixels g f) e

  pub one_more : (row : List Event) (e : Event) → played mine h w pixels (row ++ e ∷ [])
      ≡ move mine h w pixels (played mine h w pixels row) e
  unfolding played
  one_more row e = fold-last row _ e

  pub after-each : (row : List Event) (n : ℕ) (d : Event) → n < length row
      → played mine h w pixels (take (suc n) row)
      ≡ move mine h w pixels (played mine h w pixels (take n row)) (get_or row n d)
  after-each row n d l = ap (played mine h w pixels) (take-suc row n d l)
      ∙ one_more (take n row) (get_or row n d)
