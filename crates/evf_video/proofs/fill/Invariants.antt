-- `evf_video::fill` meets its contract: what is still to be done from each entry on makes the row and the state of
-- the whole. Assumes nothing.
use Rattle.std.proofs.Common.{◌≡◌, ◌++◌, take, drop}
use Rattle.evf_video.specs.Turns.{row_by, run_by}
use Rattle.evf_video.proofs.fill.Given as goal

abbrev pub invariant-loop-entry : goal.invariant-loop-entry
invariant-loop-entry l = record {
  state : run_by l.file l.fn.from l.fn.row ≡ run_by l.file l.run (drop l.entry-index l.row);
  entries : row_by l.file l.fn.from l.fn.row ≡ take l.entry-index l.row ++ row_by l.file l.run (drop l.entry-index l.row);
}
