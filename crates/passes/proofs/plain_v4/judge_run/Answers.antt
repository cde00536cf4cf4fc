-- `passes::plain_v4::judge_run` meets its contract: a run is judged from behind the last mouse event. Assumes
-- nothing.
use Rattle.passes.proofs.PlainV4.{judged-behind}
use Rattle.passes.proofs.plain_v4.judge_run.Goals as goal

pub returns : goal.returns
returns c =
    judged-behind _ _ _ c.last.ensures c.is_behind.ensures
    c.if-not-is_behind.false c.judge_moves.ensures
