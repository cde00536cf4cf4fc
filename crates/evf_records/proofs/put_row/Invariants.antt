-- From each entry on the row comes to the same. Assumes nothing.
use Rattle.std.proofs.Common.{◌≡◌, drop}
use Rattle.evf_records.specs.Steps.{put_by}
use Rattle.evf_records.proofs.put_row.Given as goal

abbrev pub invariant-loop-e : goal.invariant-loop-e
invariant-loop-e l = put_by l.run l.out (drop l.e-index l.row) ≡ put_by l.fn.from l.initial.out l.row
