-- `upgrade::upgrade` meets its contract: what `upgrade_but_row` and `fill` promise, one behind the other.
-- Assumes nothing.
use mathlib.Core.Path.{refl}
use mathlib.Core.List.{List}
use Prim.Native.Nat.{ℕ}
use lib.IntN.{ℤ}
use lib.ListN.{length}
use Rattle.game.specs.declared.Event.{Event}
use Rattle.evf_video.specs.Turns.{row_by}
use Rattle.evf_video.proofs.Filled.{row-at-exit}
use Rattle.upgrade.specs.Copy.{Upgrades}
use Rattle.upgrade.specs.CopySteps.{made_for, board_for, copy_for}
use Rattle.upgrade.proofs.upgrade.Goals as goal

-- the promise, of what `upgrade_but_row` and `fill` say
follows : (s : List ℕ) (d : List ℤ) (ys : List Event) (w : List ℕ) (rule : ℕ)
    → Upgrades s d ys w rule (made_for s d (length ys) w rule).written (board_for s d (length ys) w rule)
    (row_by s (made_for s d (length ys) w rule).run ys) (copy_for s d (length ys) w rule)
unfolding made_for board_for copy_for
follows s d ys w rule =
    record { answer_is = refl; board_is = refl; row_is = row-at-exit s (length d) ys; copy_is = refl }

pub returns : goal.returns
returns c =
    let a = c.args in
    let e = c.upgrade_but_row-made.ensures in
    rw (c.fill.ensures.1, e.0, e.1, e.2)
    (follows a.file.now a.board.now a.row.now a.copy.now a.rule)
