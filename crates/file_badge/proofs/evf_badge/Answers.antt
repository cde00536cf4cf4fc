-- A wish that is none, or the number of the answer. Assumes nothing.
use native.Mathlib.Omega.{arith}
use Rattle.file_badge.proofs.Awarding.{host-unknown, host-known}
use Rattle.file_badge.proofs.evf_badge.Goals as goal

pub returns-then-wish-gt-BY_NEWER : goal.returns-then-wish-gt-BY_NEWER
returns-then-wish-gt-BY_NEWER c =
    let a = c.args in
    host-unknown a.file.now a.wish a.board.now a.cells.now (omega (arith, c.if-wish-gt-BY_NEWER.true))

pub returns : goal.returns
returns c =
    let a = c.args in
    host-known a.file.now a.wish a.board.now a.cells.now (omega (arith, c.if-wish-gt-BY_NEWER.false))
    c.wish_of.ensures c.badge_file.ensures c.badge_number.ensures
