-- `openings::recount_bbbv` meets its contract: refused, or counted. Assumes nothing.
use mathlib.Core.Path.{sym, ◌∙◌}
use lib.Seq.{length-take-le}
use native.Mathlib.Omega.{arith}
use Rattle.board.proofs.Places.{product}
use Rattle.game.proofs.Sizes.{work-fine}
use Rattle.openings.proofs.Answers.{refused, counted, all-covered, as_long, rest-kept, all_there}
use Rattle.openings.proofs.Tally.{left_first}
use Rattle.openings.proofs.recount_bbbv.Goals as goal

pub returns-then-refusal-ne0 : goal.returns-then-refusal-ne0
returns-then-refusal-ne0 c = refused _ _ _ _ _ c.work_refusal-refusal.ensures c.if-refusal-ne0.true

pub overflow_mul-n : goal.overflow_mul-n
overflow_mul-n c =
    let f = work-fine _ _ _ _ (sym c.if-refusal-ne0.false ∙ c.work_refusal-refusal.ensures) in
    omega (arith, product c.args.height c.args.width f.tall f.wide)

pub overflow_cast-h : goal.overflow_cast-h
overflow_cast-h c =
    let f = work-fine _ _ _ _ (sym c.if-refusal-ne0.false ∙ c.work_refusal-refusal.ensures) in
    omega (arith, f.tall)

pub overflow_cast-w : goal.overflow_cast-w
overflow_cast-w c =
    let f = work-fine _ _ _ _ (sym c.if-refusal-ne0.false ∙ c.work_refusal-refusal.ensures) in
    omega (arith, f.wide)

pub open_zeros-openings-requires : goal.open_zeros-openings-requires
open_zeros-openings-requires c =
    let a = c.args in
    let f = work-fine _ _ _ _ (sym c.if-refusal-ne0.false ∙ c.work_refusal-refusal.ensures) in
    let e = as_long a.height a.width a.work.now _ f.work c.cover.ensures in
    (omega (arith, f.work), all-covered a.height a.width a.work.now _ f.work c.cover.ensures)

pub slice_bounds-count_left-end : goal.slice_bounds-count_left-end
slice_bounds-count_left-end c =
    let f = work-fine _ _ _ _ (sym c.if-refusal-ne0.false ∙ c.work_refusal-refusal.ensures) in
    all_there _ _ _ _ f.work c.cover.ensures c.open_zeros-openings.ensures

pub slice_bounds-count_left-end-2 : goal.slice_bounds-count_left-end-2
slice_bounds-count_left-end-2 c =
    let f = work-fine _ _ _ _ (sym c.if-refusal-ne0.false ∙ c.work_refusal-refusal.ensures) in
    sym (length-take-le _ _ (all_there _ _ _ _ f.work c.cover.ensures c.open_zeros-openings.ensures))

pub overflow_add-result : goal.overflow_add-result
overflow_add-result c =
    let a = c.args in
    let f = work-fine _ _ _ _ (sym c.if-refusal-ne0.false ∙ c.work_refusal-refusal.ensures) in
    omega (
      arith,
      product a.height a.width f.tall f.wide,
      c.open_zeros-openings.ensures.most,
      c.count_left-lone.ensures.1,
      length-take-le _ _ (all_there _ _ _ _ f.work c.cover.ensures c.open_zeros-openings.ensures),
    )

pub returns : goal.returns
returns c =
    let a = c.args in
    let f = work-fine _ _ _ _ (sym c.if-refusal-ne0.false ∙ c.work_refusal-refusal.ensures) in
    counted a.height a.width a.board.now a.work.now f _ _ _ _
    (rest-kept a.height a.width a.work.now _ f.work c.cover.ensures)
    c.open_zeros-openings.ensures
    (c.count_left-lone.ensures.0 ∙ left_first _ _ _ (all_there _ _ _ _ f.work c.cover.ensures c.open_zeros-openings.ensures))
