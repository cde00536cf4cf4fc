-- By how the file was judged: what its events come to under the rule. Assumes nothing.
use Rattle.file_badge.proofs.Awarding.{badge-game, badge-none}
use Rattle.file_badge.proofs.badge_file.Goals as goal

pub returns-in-Read : goal.returns-in-Read
returns-in-Read c =
    let a = c.args in
    badge-game a.wish a.file.now a.board.now a.cells.now c.judge-j.result
    c.judge-j.ensures c.start_under-from.result _ c.in-Read.is c.rule_of-rule.ensures
    c.start_under-from.ensures c.judge_events-last.ensures c.answer.ensures

pub returns-in-Refused : goal.returns-in-Refused
returns-in-Refused c =
    let a = c.args in
    badge-none a.wish a.file.now a.board.now a.cells.now c.judge-j.result
    c.judge-j.ensures _ c.in-Refused.is
