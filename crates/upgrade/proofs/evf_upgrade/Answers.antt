-- `upgrade::evf_upgrade` meets its contract: by what the file was judged to be, and by its version. Assumes
-- nothing but what a slice tells, that the file is bytes.
use mathlib.Core.Path.{ap, ◌∙◌}
use Rattle.upgrade.specs.Copy.{told_by}
use Rattle.upgrade.proofs.Copies.{copied_none, copied-new, copied-game, judged-sizes}
use Rattle.upgrade.proofs.evf_upgrade.Goals as goal

pub returns-in-Read : goal.returns-in-Read
returns-in-Read c =
    let a = c.args in
    let e = copied-new a.file.now a.copy.now a.rule _ c.judge-judged.ensures
    c.in-Read.is
    c.if-header-eq4.true in
    record { answer_is = ap told_by e.0; copy_is = e.1 }

pub copy_packed-requires : goal.copy_packed-requires
copy_packed-requires c =
    let a = c.args in
    judged-sizes a.file.now a.copy.now a.rule _ c.judge-judged.ensures
    (λ i. (c.type_inv.file i).fits) c.in-Read.is

pub returns-in-Read-2 : goal.returns-in-Read-2
returns-in-Read-2 c =
    let a = c.args in
    let e = copied-game a.file.now a.copy.now a.rule _ c.judge-judged.ensures
    (λ i. (c.type_inv.file i).fits) c.in-Read.is
    c.if-header-eq4.false _ _
    c.copy_packed.ensures in
    record { answer_is = c.told.ensures ∙ ap told_by e.0; copy_is = e.1 }

pub returns-in-Refused : goal.returns-in-Refused
returns-in-Refused c =
    let a = c.args in
    let e = copied_none a.file.now a.copy.now a.rule _ c.judge-judged.ensures _
    c.in-Refused.is in
    record { answer_is = ap told_by e.0; copy_is = e.1 }
