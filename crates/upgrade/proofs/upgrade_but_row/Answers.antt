-- `upgrade::upgrade_but_row` meets its contract: a game of versions 0 to 3 that was read into the lent board
-- is copied from there, and a refusal leaves all as it is. Assumes nothing but what a slice tells, that the
-- file is bytes.
use Rattle.upgrade.proofs.Copies.{made_none, made-new, made-game}
use Rattle.upgrade.proofs.upgrade_but_row.Goals as goal

pub returns-in-Read : goal.returns-in-Read
returns-in-Read c =
    let a = c.args in
    rw c.refused-written.ensures
    (made-new a.file.now a.board.now a.n a.copy.now a.rule _
    c.parse_but_row-ready.ensures.0 _
    c.parse_but_row-ready.ensures.1 c.in-Read.is
    c.if-header-eq4.true)

pub returns-in-Read-2 : goal.returns-in-Read-2
returns-in-Read-2 c =
    let a = c.args in
    made-game a.file.now a.board.now a.n a.copy.now a.rule _
    c.parse_but_row-ready.ensures.0 _
    c.parse_but_row-ready.ensures.1 (λ i. (c.type_inv.file i).fits)
    c.in-Read.is
    c.if-header-eq4.false _ _ c.copy_game-written.ensures

pub returns-in-Refused : goal.returns-in-Refused
returns-in-Refused c =
    let a = c.args in
    rw c.refused-written-in-Refused.ensures
    (made_none a.file.now a.board.now a.n a.copy.now a.rule _
    c.parse_but_row-ready.ensures.0 _
    c.parse_but_row-ready.ensures.1 _ c.in-Refused.is)
