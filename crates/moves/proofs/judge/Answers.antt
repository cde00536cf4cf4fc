-- A test for each part of the definition.
use mathlib.Core.Path.{sym}
use native.Mathlib.Omega.{arith}
use Rattle.moves.proofs.Judging.{judged-none, judged-lost, judged-won, judged-on}
use Rattle.moves.proofs.judge.Goals as goal

pub returns-then-took-eq0 : goal.returns-then-took-eq0
returns-then-took-eq0 c = let a = c.args in sym (judged-none a.p a.took a.mine c.if-took-eq0.true)

pub returns-then-mine : goal.returns-then-mine
returns-then-mine c =
    let a = c.args in
    sym (judged-lost a.p a.took a.mine c.if-took-eq0.false c.if-mine.true)

pub returns-then-left-took : goal.returns-then-left-took
returns-then-left-took c =
    let a = c.args in
    sym
    (judged-won a.p a.took a.mine c.if-took-eq0.false c.if-mine.false
    (omega arith))

pub returns-else-left-took : goal.returns-else-left-took
returns-else-left-took c =
    let a = c.args in
    sym
    (judged-on a.p a.took a.mine c.if-took-eq0.false c.if-mine.false (omega arith))
