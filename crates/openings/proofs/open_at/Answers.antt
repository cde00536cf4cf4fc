-- The code is the definition of one cell of the walk.
use mathlib.Core.Path.{sym, ◌∙◌, ap}
use mathlib.Core.List.{List}
use Prim.Native.Nat.{ℕ}
use Rattle.openings.proofs.Walk.{open-yes, open-not, open_done}
use Rattle.openings.proofs.open_at.Goals as goal
use Rattle.openings.proofs.open_at.Goals.{else-work-k-eq-COVERED-via-then-work-k-eq-COVERED+else-is_zero, else-work-k-eq-COVERED-via-else-work-k-eq-COVERED}

pub returns-then-is_zero : goal.returns-then-is_zero
returns-then-is_zero c =
    ap (λ (x : List ℕ). (x, 1)) c.uncover.ensures.is
    ∙ open-yes _ _ _ _ _ c.if-work-k-eq-COVERED.true
    (sym c.is_zero.ensures
    ∙ c.if-is_zero.true)

pub returns : goal.returns
returns c =
    elim c.else-work-k-eq-COVERED.branch [
      | else-work-k-eq-COVERED-via-then-work-k-eq-COVERED+else-is_zero w ↦
          open-not _ _ _ _ _ w.if-work-k-eq-COVERED.true (sym w.is_zero.ensures ∙ w.if-is_zero.false)
      | else-work-k-eq-COVERED-via-else-work-k-eq-COVERED w ↦
          open_done _ _ _ _ _ w.if-work-k-eq-COVERED.false
    ]
