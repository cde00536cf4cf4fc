-- Which rows hold a chord (02, note 6, refusal 28), said by places in the row: a cc, an lc while the right
-- button is down, or an rc while the left one is. A button is down from its press, lc or rc, to the next
-- release of its own, lr or rr; nothing else ends a press. Kinds alone count: a chord off the board, or after
-- the game's end, is one too. Definitions only.
use Rattle.std.specs.Prelude.{ℕ, Bool, false, not, ◌&&◌, ◌||◌, List, eqb, ltb, length, get_or}
use Rattle.game.specs.declared.Event.{Event}
use Rattle.game.specs.declared.Event.TheVariants.{Mouse, State}
use Rattle.game.specs.declared.MouseKind.{MouseKind}
use Rattle.game.specs.declared.MouseKind.TheVariants.{Lc, Lr, Rc, Rr, Cc}
use Rattle.game.specs.Kinds.{code_of}
use Rattle.rows.specs.Rows.{no_event}
use Rattle.flood.specs.Spread.{some}

-- an event is of this kind; a game state is of none
abbrev pub is_kind : MouseKind → Event → Bool
is_kind kind (Mouse t k x y) = eqb (code_of k) (code_of kind)
is_kind kind (State t s) = false

module _ (row : List Event) where
  -- the entry at place i is of this kind
  abbrev pub kind_at : MouseKind → ℕ → Bool
  kind_at kind i = is_kind kind (get_or row i no_event)

  -- an entry between the places i and j is of this kind
  abbrev pub between : MouseKind → ℕ → ℕ → Bool
  between kind i j = some (λ k. ltb i k && kind_at kind k) j

  -- at place j a button is down: pressed at a place i before j, and not released between them
  unfoldable pub is_down : (press release : MouseKind) → ℕ → Bool
  is_down press release j = some (λ i. kind_at press i && not (between release i j)) j

  -- the entry at place j makes a chord
  unfoldable pub chord_at : ℕ → Bool
  chord_at j = kind_at Cc j || (kind_at Lc j && is_down Rc Rr j) || (kind_at Rc j && is_down Lc Lr j)

  -- the row holds a chord
  unfoldable pub has_chord : Bool
  has_chord = some chord_at (length row)
