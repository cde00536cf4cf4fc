use native.Mathlib.Omega.{arith}
use borrow.Author.Rules.{rules}
use Rattle.openings.proofs.Walk.{walks-on, walked_all, open-most}
use Rattle.openings.proofs.open_zeros.Goals as goal

pub overflow_add-openings : goal.overflow_add-openings
overflow_add-openings c =
    let l = c.loop-k in
    let q = open-most _ _ _ _ _ _ c.open_at-openings.ensures in
    let r = l.invariant.1.most in
    omega arith

pub loop-k-preserved : goal.loop-k-preserved
loop-k-preserved c =
    let l = c.loop-k in (
      search rules,
      walks-on _ _ _ _ _ _ _ l.invariant.1 (omega arith) _
          c.open_at-openings.ensures,
    )

pub returns : goal.returns
returns c = walked_all _ _ _ _ _ _ _ c.loop-k.invariant.1 (omega arith)
