-- `time_cases::comes_back` meets its contract: every u32 survives seconds and back, by either rule.
-- Assumes nothing.
use Rattle.std.proofs.Common.{◌≡◌, ℕ, ◌^◌, ◌<◌, ap, ◌∙◌, arith, eq-eqb}
use lib.Ieee.{Float}
use Rattle.times.specs.declared.GameMs.{GameMs}
use Rattle.times.specs.Times.{seconds_of, s_to_ms}
use Rattle.times.proofs.Seconds.{round_trip}
use Rattle.time_cases.proofs.comes_back.Goals as goal

back : (rule n : ℕ) → n < 2 ^ 32 → {s : Float} → s ≡ seconds_of n → {m : GameMs}
    → m ≡ record { 0 = s_to_ms rule s } → m.0 ≡ n
back rule n small s-is m-is =
    ap (λ (m : GameMs). m.0) m-is ∙ ap (s_to_ms rule) s-is ∙ round_trip rule n small

pub returns-then-away-n : goal.returns-then-away-n
returns-then-away-n c =
    let n = c.args.n in
    let small : n < 2 ^ 32 = omega arith in
    eq-eqb _ _ (back _ n small c.seconds_of-seconds.ensures c.rounded_ms-even.ensures)

pub returns-else-away-n : goal.returns-else-away-n
returns-else-away-n c =
    let n = c.args.n in
    let small : n < 2 ^ 32 = omega arith in
    absurd (c.if-away-n.false (back _ n small c.seconds_of-seconds.ensures c.rounded_ms-away.ensures))
