use Rattle.byte_writer.proofs.Stored.{put_more}
use Rattle.byte_writer.proofs.put_number.Goals as goal

pub loop-i-preserved : goal.loop-i-preserved
loop-i-preserved c =
    let l = c.loop-i in
    put_more _ _ _ _ l.invariant _ c.loop-i-test.true c.put_byte.ensures
