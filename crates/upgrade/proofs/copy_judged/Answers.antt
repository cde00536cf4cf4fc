-- `upgrade::copy_judged` meets its contract: a game is written around its events and then the events
-- themselves. Assumes nothing.
use native.Mathlib.Omega.{arith}
use Rattle.upgrade.proofs.Copies.{written-game}
use Rattle.upgrade.proofs.copy_judged.Goals as goal

pub returns : goal.returns
returns c =
    let a = c.args in
    written-game a.file.now a.h a.board.now a.from a.seen a.copy.now
    (omega (arith, c.well_formed.1.1.1.1.1.0.0)) _ c.prepare-ready.ensures.0 _
    c.prepare-ready.ensures.1 _
    c.put_events.ensures
