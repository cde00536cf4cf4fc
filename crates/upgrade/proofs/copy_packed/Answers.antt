-- `upgrade::copy_packed` meets its contract: 65025 cells are enough for every board, and those behind the
-- game's do not matter. Assumes nothing.
use native.Mathlib.Omega.{arith}
use borrow.Author.Rules.{rules}
use Rattle.upgrade.proofs.Copies.{unpacked_game}
use Rattle.upgrade.proofs.copy_packed.Goals as goal

pub returns : goal.returns
returns c =
    let a = c.args in
    unpacked_game a.file.now a.h a.place a.from a.copy.now (omega arith)
    (omega arith) _ _ _
    (search rules)
    c.part-bits.ensures
    c.read_board.ensures a.rule _ _
    c.copy_game.ensures
