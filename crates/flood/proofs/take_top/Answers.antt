-- The code is the definition of a turn.
use mathlib.Core.Path.{◌∙◌}
use Rattle.flood.specs.Pile.{turn}
use Rattle.flood.proofs.take_top.Goals as goal

pub returns-then-is_zero : goal.returns-then-is_zero
unfolding turn
returns-then-is_zero c = c.push_around.ensures.is
    ∙ rw (
      ← c.is_zero.ensures,
      c.if-is_zero.true,
    )

pub returns : goal.returns
unfolding turn
returns c = rw (← c.is_zero.ensures, c.if-is_zero.false)
