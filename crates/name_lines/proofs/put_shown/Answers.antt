use mathlib.Core.Path.{◌∙◌}
use native.Mathlib.Omega.{arith}
use Rattle.name_lines.proofs.Sights.{shown-more}
use Rattle.name_lines.proofs.put_shown.Goals as goal

pub loop-i-preserved : goal.loop-i-preserved
loop-i-preserved c =
    let l = c.loop-i in
    let a = c.args in
    c.put_byte.ensures
    ∙ rw (l.invariant, c.shown_byte.ensures)
    (shown-more a.out.now a.at l.i a.name.now (omega arith))
