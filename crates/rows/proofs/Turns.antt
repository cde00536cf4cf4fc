-- What one turn of a reading does to a row, and what all of them do.
--     went, stopped the row and the state from entry i on, where the turn gave an event, and where it gave
--     none
--     stored, left      the same once the event stands at i
--     gave-row          a reading that gives the events es and then no more leaves them at the start of a row
--                       that they fit into
-- Assumes nothing.
use mathlib.Core.Path.{◌≡◌, refl, sym, ◌∙◌, ap}
use Prim.Native.Nat.{ℕ, suc, ◌+◌, ◌<◌, ◌≤◌}
use native.Mathlib.Nat.{lt-suc_self}
use native.Mathlib.Numerals.{add-one}
use native.Mathlib.Omega.{arith}
use mathlib.Core.Bool.{Bool, true, false, cond}
use mathlib.Core.List.{List, [], ◌∷◌, ◌++◌}
use lib.ListN.{length, get_or, set, take, drop}
use lib.Seq.{sets, drop-cons, append_snoc, take-suc-set, drop-set-lt}
use Rattle.game.specs.declared.Event.{Event}
use Rattle.lists.proofs.Stores.{sets-front}
use Rattle.rows.specs.Rows.{no_event, filled_row, filled_state, TurnsGive}

module _ {S K : Type 0} (more : K → Bool) (event : K → Event) (state : K → S) (took : List ℕ → S → K)
    (file : List ℕ) where
  abbrev f_row : S → List Event → List Event
  f_row = filled_row more event state took file

  abbrev fState : S → List Event → S
  fState = filled_state more event state took file

  -- the turn k is taken at the reading r, at entry i of the row zs
  module _ (r : S) (zs : List Event) (i : ℕ) (l : i < length zs) (k : K) (e : k ≡ took file r) where
    abbrev rest : List Event
    rest = drop (suc i) zs

    turned-row : (t : Bool) → more k ≡ t
        → f_row r (drop i zs) ≡ cond t (event k ∷ f_row (state k) rest) (get_or zs i no_event ∷ rest)
    turned-row t m =
        ap (f_row r) (drop-cons zs i no_event l)
        ∙ ap (λ (j : K). cond (more j) (event j ∷ f_row (state j) rest) (get_or zs i no_event ∷ rest)) (sym e)
        ∙ ap (λ (u : Bool). cond u (event k ∷ f_row (state k) rest) (get_or zs i no_event ∷ rest)) m

    turned-state : (t : Bool) → more k ≡ t → fState r (drop i zs) ≡ cond t (fState (state k) rest) (state k)
    turned-state t m =
        ap (fState r) (drop-cons zs i no_event l)
        ∙ ap (λ (j : K). cond (more j) (fState (state j) rest) (state j)) (sym e)
        ∙ ap (λ (u : Bool). cond u (fState (state k) rest) (state k)) m

    pub stopped-row : more k ≡ false → f_row r (drop i zs) ≡ drop i zs
    stopped-row m = turned-row false m ∙ sym (drop-cons zs i no_event l)

    pub stopped-state : more k ≡ false → fState r (drop i zs) ≡ state k
    stopped-state m = turned-state false m

    -- the row with the event at i: the first i + 1 are done
    stored : take i zs ++ event k ∷ f_row (state k) rest ≡ take (i + 1) (set zs i (event k))
        ++ f_row (state k) (drop (i + 1) (set zs i (event k)))
    stored =
        sym (append_snoc (take i zs) (event k) (f_row (state k) rest))
        ∙ ap (λ (ws : List Event). ws ++ f_row (state k) rest) (sym (take-suc-set zs i (event k) l))
        ∙ ap (λ (ws : List Event). take (suc i) (set zs i (event k)) ++ f_row (state k) ws)
        (sym (drop-set-lt (suc i) zs i (event k) (lt-suc_self i)))
        ∙ ap (λ (j : ℕ). take j (set zs i (event k)) ++ f_row (state k) (drop j (set zs i (event k))))
        (sym (add-one i))

    pub went-row : more k ≡ true
        → take i zs ++ f_row r (drop i zs) ≡ take (i + 1) (set zs i (event k))
        ++ f_row (state k) (drop (i + 1) (set zs i (event k)))
    went-row m = ap (λ (ws : List Event). take i zs ++ ws) (turned-row true m) ∙ stored

    pub went-state : more k ≡ true
        → fState r (drop i zs) ≡ fState (state k) (drop (i + 1) (set zs i (event k)))
    went-state m =
        turned-state true m
        ∙ ap (fState (state k))
        (sym (drop-set-lt (suc i) zs i (event k) (lt-suc_self i))
        ∙ ap (λ (j : ℕ). drop j (set zs i (event k))) (sym (add-one i)))

  gave : (r : S) (es row : List Event) → TurnsGive more event state took file r es → length es ≤ length row
      → f_row r row ≡ es ++ drop (length es) row
  gave r [] [] g h = refl
  gave r [] (x ∷ row) g h =
      ap (λ (t : Bool). cond t (event (took file r) ∷ f_row (state (took file r)) row) (x ∷ row)) g
  gave r (e ∷ es) [] g h = absurd (omega arith)
  gave r (e ∷ es) (x ∷ row) g h =
      ap (λ (t : Bool). cond t (event (took file r) ∷ f_row (state (took file r)) row) (x ∷ row)) g.0
      ∙ ap (λ (d : Event). d ∷ f_row (state (took file r)) row) g.1.0
      ∙ ap (λ (ws : List Event). e ∷ ws) (gave (state (took file r)) es row g.1.1 (omega arith))

  -- the events are at the start of the row, and what stood behind them is as it was
  pub gave-row : (r : S) (es row : List Event) → TurnsGive more event state took file r es
      → length es ≤ length row → f_row r row ≡ sets row 0 es
  gave-row r es row g h = gave r es row g h ∙ sym (sets-front row es h)
