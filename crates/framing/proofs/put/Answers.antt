-- `framing::put` meets its contract: three stores in a row, where there is room for all of them.
use Rattle.std.proofs.Common.{◌≤◌, length, sym, ◌∙◌, arith}
use borrow.Author.Tests.{leb-true, leb-false}
use Rattle.framing.specs.Expanding.{expanded}
use Rattle.framing.proofs.Laws.{length-expanded, put_all, put_none, whole}
use Rattle.framing.proofs.put.Goals as goal

pub returns-then-not-run_fits-clause-put : goal.returns-then-not-run_fits-clause-put
returns-then-not-run_fits-clause-put c = put_none _ _ (rw length-expanded (leb-false _ _ (sym c.if-not-run_fits.ensures)))

pub returns-clause-put : goal.returns-clause-put
returns-clause-put c =
    let a = c.args in
    let bytes = expanded a.first.now a.unit.now a.times a.last.now in
    let long = length-expanded a.first.now a.unit.now a.times a.last.now in
    let h = leb-true _ _ (sym c.if-not-run_fits.ensures) in
    let fits : length bytes ≤ length a.out.now = omega arith in
    put_all a.out.now bytes _ _ fits
    (c.put_bytes-2.ensures
    ∙ rw (c.repeat-at.ensures.value, c.repeat-at.ensures.out_after, c.put_bytes.ensures)
    (whole a.out.now a.first.now a.unit.now a.times a.last.now))
    (omega arith)
