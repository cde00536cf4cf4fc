use Prim.Native.Nat.{ℕ, zero, suc, ◌+◌, ◌-◌, ◌<◌}
use mathlib.Core.Path.{◌≡◌}
use mathlib.Core.List.{◌++◌}
use native.Mathlib.Omega.{arith}
use Rattle.byte_writer.proofs.Laws.{writes_as, writes_none, writes_then}
use Rattle.refusals_help.specs.Help.{help_line, help_lines_to}
use Rattle.refusals_help.proofs.write_refusals_help.Goals as goal

one_more : (n : ℕ) → 0 < n → help_lines_to (n - 1) ++ help_line n ≡ help_lines_to (n + 1 - 1)
unfolding help_lines_to
one_more zero l = absurd (omega arith)
one_more (suc n) l =
    let a : suc n - 1 ≡ n = omega arith in
    let b : suc n + 1 - 1 ≡ suc n = omega arith in
    rw (a, b)

pub loop-n-init : goal.loop-n-init
unfolding help_lines_to
loop-n-init c = writes_none _ _ (omega arith)

pub loop-n-preserved : goal.loop-n-preserved
loop-n-preserved c =
    writes_as (one_more c.loop-n.n (omega arith))
    (writes_then (omega arith) c.loop-n.invariant (λ l. c.write_help_line-end.ensures))
