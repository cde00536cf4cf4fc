-- The pass over a row that judges the badge event by event says it by places. Assumes nothing.
--     older-pass    under the older rule an rc anywhere spoils it, and nothing is played
--     newer-pass    under the newer the play is that of `playing`, and what spoils it is judged before each
--                   event
use mathlib.Core.Path.{◌≡◌, refl, sym, ◌∙◌, ap}
use mathlib.Core.Bool.{Bool, true, false, not, ◌&&◌, ◌||◌, and-true}
use mathlib.Core.List.{List, [], ◌∷◌, foldl, foldl-append}
use Prim.Native.Nat.{ℕ, zero, suc, ◌≤◌, ◌<◌}
use native.Mathlib.Omega.{arith}
use lib.IntN.{ℤ}
use lib.ListN.{length, get_or, take}
use lib.Seq.{take-suc, take-length}
use Rattle.flood.specs.Spread.{some}
use Rattle.rows.specs.Rows.{no_event}
use Rattle.game.specs.declared.Event.{Event}
use Rattle.game.specs.declared.Event.TheVariants.{Mouse, State}
use Rattle.game.specs.declared.MouseKind.TheVariants.{Rc}
use Rattle.buttons.specs.Chords.{is_kind, kind_at}
use Rattle.moves.specs.declared.Position.{Position}
use Rattle.moves.specs.Moves.{moved_by}
use Rattle.badge_rules.specs.declared.Rule.TheVariants.{Older, Newer}
use Rattle.badge.specs.declared.Judging.{Judging}
use Rattle.badge.specs.Judging.{judging, judged_by}
use Rattle.badge.proofs.Falling.{entry_spoils}

not-or : (a b : Bool) → (not a && not b) ≡ not (a || b)
not-or true b = refl
not-or false b = refl

module _ (board : List ℤ) (row : List Event) (claimed : Bool) where
  fold_more : {A : Type 0} (f : A → Event → A) (a : A) (j : ℕ) → j < length row
      → foldl f a (take (suc j) row) ≡ f (foldl f a (take j row)) (get_or row j no_event)
  fold_more f a j l =
      ap (foldl f a) (take-suc row j no_event l) ∙ foldl-append f a (take j row) (get_or row j no_event ∷ [])

  -- THE OLDER RULE
  module _ (p : Position) (cells : List ℕ) where
    abbrev olderAt : Bool → Judging × List ℕ
    olderAt b = (judging p Older b claimed, cells)

    older-step : (b : Bool) (e : Event) → judged_by board (olderAt b) e ≡ olderAt (b && not (is_kind Rc e))
    older-step b (Mouse t kind x y) = refl
    older-step b (State t s) = ap olderAt (sym (and-true b))

    older-first : (j : ℕ) → j ≤ length row → foldl (judged_by board) (olderAt true) (take j row)
        ≡ olderAt (not (some (kind_at row Rc) j))
    older-first zero l = refl
    older-first (suc j) l =
        fold_more (judged_by board) (olderAt true) j l
        ∙ ap (λ (s : Judging × List ℕ). judged_by board s (get_or row j no_event)) (older-first j (omega arith))
        ∙ older-step (not (some (kind_at row Rc) j)) (get_or row j no_event)
        ∙ ap olderAt (not-or (some (kind_at row Rc) j) (kind_at row Rc j))

    pub older-pass : foldl (judged_by board) (olderAt true) row
        ≡ olderAt (not (some (kind_at row Rc) (length row)))
    older-pass =
        ap (foldl (judged_by board) (olderAt true)) (sym (take-length row))
        ∙ older-first (length row) (omega arith)

  -- THE NEWER RULE, from a position and lent cells on
  module _ (q : Position × List ℕ) where
    -- those after the first i events
    abbrev pub moved_to : ℕ → Position × List ℕ
    moved_to i = foldl (moved_by board) q (take i row)

    abbrev pub entrySpoiledAt : ℕ → Bool
    entrySpoiledAt i = entry_spoils (moved_to i) (get_or row i no_event)

    abbrev newerAt : Position × List ℕ → Bool → Judging × List ℕ
    newerAt r b = (judging r.0 Newer b claimed, r.1)

    newer-step : (r : Position × List ℕ) (b : Bool) (e : Event) → judged_by board (newerAt r b) e
        ≡ newerAt (moved_by board r e) (b && not (entry_spoils r e))
    newer-step r b (Mouse t kind x y) = refl
    newer-step r b (State t s) = ap (newerAt r) (sym (and-true b))

    newer-first : (j : ℕ) → j ≤ length row → foldl (judged_by board) (newerAt q true) (take j row)
        ≡ newerAt (moved_to j) (not (some entrySpoiledAt j))
    newer-first zero l = refl
    newer-first (suc j) l =
        fold_more (judged_by board) (newerAt q true) j l
        ∙ ap (λ (s : Judging × List ℕ). judged_by board s (get_or row j no_event)) (newer-first j (omega arith))
        ∙ newer-step (moved_to j) (not (some entrySpoiledAt j)) (get_or row j no_event)
        ∙ ap (newerAt (moved_by board (moved_to j) (get_or row j no_event)))
        (not-or (some entrySpoiledAt j) (entrySpoiledAt j))
        ∙ ap (λ (r : Position × List ℕ). newerAt r (not (some entrySpoiledAt (suc j))))
        (sym (fold_more (moved_by board) q j l))

    pub newer-pass : foldl (judged_by board) (newerAt q true) row
        ≡ newerAt (foldl (moved_by board) q row) (not (some entrySpoiledAt (length row)))
    newer-pass =
        ap (foldl (judged_by board) (newerAt q true)) (sym (take-length row))
        ∙ newer-first (length row) (omega arith)
        ∙ ap (λ (es : List Event). newerAt (foldl (moved_by board) q es) (not (some entrySpoiledAt (length row))))
        (take-length row)
