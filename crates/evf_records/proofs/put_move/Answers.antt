-- `evf_records::put_move` meets its contract: by whether writing is off. Assumes nothing.
use Rattle.game.specs.declared.Event.TheVariants.{Mouse}
use Rattle.evf_records.proofs.Entries.{put-off, put-mouse}
use Rattle.evf_records.proofs.put_move.Goals as goal

pub returns-then-run : goal.returns-then-run
returns-then-run c = let a = c.args in
    record {
      right = λ seconds e. put-off a.run a.out.now
          (Mouse seconds a.kind a.x a.y) c.if-run.true;
    }

pub returns : goal.returns
returns c =
    let a = c.args in
    record {
      right = λ seconds e. put-mouse a.run a.out.now seconds a.kind a.x a.y
          c.if-run.false e c.put_mouse-at.ensures;
    }
