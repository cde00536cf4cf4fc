-- `resave::save_lent` meets its contract: the events judged, what stands around them written, and the events
-- themselves. Assumes nothing.
use native.Mathlib.Omega.{arith}
use Rattle.resave.proofs.Saves.{saved_lent}
use Rattle.resave.proofs.save_lent.Goals as goal

pub returns : goal.returns
returns c =
    let a = c.args in
    saved_lent a.file.now a.h a.board.now _ a.copy.now a.rule
    (omega (arith, c.well_formed.1.1.1.1.1.0.0)) _
    c.judge_events-seen.ensures _ c.prepare-ready.ensures.0 _ c.prepare-ready.ensures.1 _
    c.put_events.ensures
