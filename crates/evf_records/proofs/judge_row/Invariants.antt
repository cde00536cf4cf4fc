-- After so many turns `seen` is the fold over the entries so far.
use Rattle.std.proofs.Common.{take, ◌≡◌}
use Rattle.evf_records.specs.Steps.{seen_by}
use Rattle.evf_records.proofs.judge_row.Given as goal

abbrev pub invariant-loop-e : goal.invariant-loop-e
invariant-loop-e l = l.seen ≡ seen_by l.fn.from (take l.e-index l.row)
