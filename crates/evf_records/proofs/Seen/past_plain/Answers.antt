-- `Seen::past_plain` meets its contract. Assumes nothing.
use Rattle.evf_records.specs.Steps.{seen_past}
use Rattle.evf_records.proofs.Seen.past_plain.Goals as goal

pub returns : goal.returns
unfolding seen_past
returns c = rw (c.advance.ensures, c.plus.ensures)
