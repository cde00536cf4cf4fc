-- `resave::resave` meets its contract: by what the file was judged to be. Assumes nothing but what a slice
-- tells, that the file is bytes.
use Rattle.upgrade.proofs.Copies.{judged-sizes}
use Rattle.resave.proofs.Saves.{saved-none, saved-game}
use Rattle.resave.proofs.resave.Goals as goal

pub save_packed-requires : goal.save_packed-requires
save_packed-requires c =
    let a = c.args in
    judged-sizes a.file.now a.copy.now a.rule _ c.judge-judged.ensures
    (λ i. (c.type_inv.file i).fits) c.in-Read.is

pub returns-in-Read : goal.returns-in-Read
returns-in-Read c =
    let a = c.args in
    saved-game a.file.now a.copy.now a.rule _ c.judge-judged.ensures
    c.in-Read.is _ _
    c.save_packed.ensures

pub returns-in-Refused : goal.returns-in-Refused
returns-in-Refused c =
    let a = c.args in
    rw c.refused.ensures
    (saved-none a.file.now a.copy.now a.rule _ c.judge-judged.ensures _
    c.in-Refused.is)
