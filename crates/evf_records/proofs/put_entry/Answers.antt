-- `evf_records::put_entry` meets its contract: by the entry's two cases. Assumes nothing.
use native.Mathlib.Omega.{arith}
use Rattle.evf_records.proofs.Entries.{put-state}
use Rattle.evf_records.proofs.put_entry.Goals as goal

pub returns-in-State : goal.returns-in-State
returns-in-State c =
    let a = c.args in
    rw c.in-State.is (put-state a.run a.out.now _ _ (omega arith))
