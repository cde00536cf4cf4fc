-- `resave::save_packed` meets its contract: 65025 cells are enough for every board, and those behind the
-- game's do not matter. Assumes nothing.
use borrow.Author.Rules.{rules}
use native.Mathlib.Omega.{arith}
use Rattle.resave.proofs.Saves.{saved_packed}
use Rattle.resave.proofs.save_packed.Goals as goal

pub returns : goal.returns
returns c =
    let a = c.args in
    saved_packed a.file.now a.h a.place _ a.copy.now a.rule
    (omega arith) (omega arith) _ _ _
    (search rules)
    c.part-bits.ensures
    c.read_board.ensures _ _
    c.save_lent.ensures
