-- `passes::plain_v4::put_run` meets its contract: a run is put from behind the last mouse event. Assumes
-- nothing.
use Rattle.std.proofs.Common.{sym, ◌∙◌}
use Rattle.passes.proofs.PlainV4.{put-behind}
use Rattle.passes.proofs.plain_v4.put_run.Goals as goal

pub returns : goal.returns
returns c =
    put-behind _ _ _ c.rule.ensures c.place.ensures c.last-2.ensures
    c.last.ensures
    c.is_behind.ensures c.if-not-is_behind.false
    (sym c.on_4.ensures ∙ c.if-not-on_4.false) c.put_moves.ensures
