-- `times::nearest` meets its contract: `m >> k` and `m % (1 << k)` are the quotient and the remainder by
-- 2 ^ k, and the tests compare twice the remainder with 2 ^ k. Assumes nothing.
use mathlib.Core.Path.{◌≡◌, sym, ap, ◌∙◌, subst}
use Prim.Native.Nat.{ℕ, ◌+◌, ◌*◌, ◌/◌, ◌%◌, ◌^◌, ◌≤◌, ◌<◌, min, Ordering}
use native.Mathlib.Nat.{lt_of_lt_of_le, mod-eq_of_lt, one-mul}
use native.Mathlib.Omega.{arith}
use lib.Arith.{lt_of_le-ne}
use lib.Pow.{pow_pos, pow_mono, pow-lt, shr_lt}
use Rattle.times.specs.Times.{largest_ms}
use Rattle.times.specs.Splits.{Splits}
use Rattle.times.proofs.Parts.{Half, Above, rest_by, fraction_parts}
use Rattle.times.proofs.Rules.{rule-moves, rule-stays}
use Rattle.times.proofs.Fractions.{Cmp, parts_within}
use Rattle.times.proofs.nearest.Goals as goal

module _ (m k : ℕ) (s : Splits m k) where
  -- the code's `1 << k`
  abbrev unit : ℕ
  unit = 1 * 2 ^ k % 2 ^ 64

  unit-is : unit ≡ 2 ^ k
  unit-is = ap (λ (u : ℕ). u % 2 ^ 64) (one-mul (2 ^ k)) ∙ mod-eq_of_lt (pow-lt s.most)

  whole-fits : m / 2 ^ k < 2 ^ 32
  whole-fits = shr_lt 32 k (lt_of_lt_of_le s.digits (pow_mono (room s.least)))
    where
      room : 21 ≤ k → 53 ≤ 32 + k
      room h = omega arith

  answer : (o : Ordering) → Cmp o (m % unit * 2) unit
      → record { whole = m / 2 ^ k; rest = rest_by o } ≡ fraction_parts m (2 ^ k)
  answer o c = sym (parts_within m (2 ^ k) o whole-fits (subst (λ (u : ℕ). Cmp o (m % u * 2) u) unit-is c))

pub overflow_cast-whole : goal.overflow_cast-whole
overflow_cast-whole c = record { fits = whole-fits c.args.m c.args.k c.requires }

pub returns-then-twice-unit : goal.returns-then-twice-unit
returns-then-twice-unit c =
    let m = c.args.m in
    let k = c.args.k in
    rule-stays c.args.rule m (2 ^ k) (pow_pos k) (m / 2 ^ k) (omega (arith, whole-fits m k c.requires))
    (answer m k c.requires Ordering.lt c.if-twice-unit.true)

pub returns-then-twice-unit-2 : goal.returns-then-twice-unit-2
returns-then-twice-unit-2 c =
    let m = c.args.m in
    let k = c.args.k in
    c.capped_sum.ensures ∙ ap (λ (n : ℕ). min (m / 2 ^ k + n) largest_ms) c.half_step.ensures
    ∙ rule-moves c.args.rule m (2 ^ k) (pow_pos k) (record { whole = m / 2 ^ k; rest = Half })
    (answer m k c.requires Ordering.eq c.if-twice-unit-2.true)

pub returns : goal.returns
returns c =
    let m = c.args.m in
    let k = c.args.k in
    c.capped_sum-2.ensures
    ∙ rule-moves c.args.rule m (2 ^ k) (pow_pos k) (record { whole = m / 2 ^ k; rest = Above })
    (answer m k c.requires Ordering.gt
    (lt_of_le-ne c.if-twice-unit.false (λ q. c.if-twice-unit-2.false (sym q))))
