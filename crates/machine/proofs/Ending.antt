-- A whole row, from its first position to its last. Assumes nothing.
--     row_on    position and lent cells stay the machine's along a row
--     ends      what they tell at its end
use mathlib.Core.Path.{◌≡◌, sym, ◌∙◌, ap}
use mathlib.Core.List.{List, [], ◌∷◌, ◌++◌, foldl, map}
use Prim.Native.Nat.{ℕ, ◌*◌, ◌≤◌}
use native.Mathlib.Omega.{arith}
use lib.IntN.{ℤ}
use lib.ListN.{length, take, drop, length-map, take-append-drop, get_or-map}
use lib.Seq.{sets, ext_get_or, length-take-le, get_or-take}
use Rattle.lists.proofs.Stores.{sets-front}
use Rattle.board.specs.Geometry.{mine_at}
use Rattle.game.specs.declared.Event.{Event}
use Rattle.moves.specs.declared.Position.{Position}
use Rattle.machine.specs.Machine.{Game, covered, move}
use Rattle.machine.specs.Answers.{entry_of, answer_of}
use Rattle.moves.specs.Moves.{moved_by}
use Rattle.machine.proofs.PlayOn.{Plays, play-on}

module _ (board : List ℤ) (h w pixels : ℕ) (before : List ℕ) (room : h * w ≤ length before)
    (some : pixels ≡ 0 → ⊥) where
  abbrev Kept : Game → Position × List ℕ → Type 0
  Kept g q = Plays board h w pixels before room some g q.0 q.1

  pub row_on : (row : List Event) (g : Game) (q : Position × List ℕ) → Kept g q
      → Kept (foldl (move (mine_at board) h w pixels) g row) (foldl (moved_by board) q row)
  row_on [] g q s = s
  row_on (e ∷ row) g q s =
      row_on row (move (mine_at board) h w pixels g e) (moved_by board q e)
      (play-on board h w pixels before room some g q.0 q.1 s e)

  module _ (g : Game) (p : Position) (cells : List ℕ) (s : Kept g (p, cells)) where
    pub told : p.stands ≡ answer_of g.verdict
    told = ap (λ (q : Position). q.stands) s.is

    abbrev entries : List ℕ
    entries = map entry_of g.cells

    many : length entries ≡ h * w
    many = length-map g.cells entry_of ∙ s.many

    long : h * w ≤ length cells
    long = let e = s.long in omega arith

    first : take (h * w) cells ≡ entries
    first =
        let n : length (take (h * w) cells) ≡ h * w = length-take-le (h * w) cells long in
        ext_get_or 0 (take (h * w) cells) entries (n ∙ sym many)
        (λ i l. get_or-take (h * w) cells i 0 (omega arith) ∙ s.on i (omega arith)
        ∙ sym (get_or-map entry_of g.cells i covered))

    pub left : cells ≡ sets before 0 (map entry_of g.cells)
    left =
        sym (take-append-drop (h * w) cells)
        ∙ ap (λ (l : List ℕ). l ++ drop (h * w) cells) first
        ∙ ap (λ (l : List ℕ). entries ++ l) s.past
        ∙ ap (λ (n : ℕ). entries ++ drop n before) (sym many)
        ∙ sym (sets-front before entries (let e = many in omega arith))
