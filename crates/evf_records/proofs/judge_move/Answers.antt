-- `evf_records::judge_move` meets its contract. Assumes nothing.
use Rattle.evf_records.proofs.Entries.{judged-mouse}
use Rattle.evf_records.proofs.judge_move.Goals as goal

pub returns : goal.returns
returns c =
    let a = c.args in
    record {
      right = λ seconds e. judged-mouse a.seen seconds a.kind a.x a.y e
          c.first_mouse_fault-start.ensures c.mouse_fault-fault.ensures
          c.advance.ensures c.keep_first.ensures
          c.or.ensures c.mouse_len.ensures c.plus.ensures;
    }
