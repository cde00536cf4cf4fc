use mathlib.Core.Path.{◌≡◌, sym, ◌∙◌}
use borrow.Author.Rules.{rules}
use Prim.Native.Nat.{◌^◌, ◌≤◌}
use Rattle.text.specs.Decimals.{more}
use lib.ListN.{get_or}
use Rattle.text.proofs.Spelled.{starts-at, ends_at, low-at, high-at, digit_at, big-at}
use Rattle.text.proofs.digits.Goals as goal
use Rattle.text.proofs.digits.Goals.{then-d-lt48-via-then-d-lt48, then-d-lt48-via-else-d-lt48+then-d-gt57}

pub loop-d-init : goal.loop-d-init
loop-d-init c = (search rules, starts-at c.args.s.now 0 (search rules))

pub returns-then-d-lt48 : goal.returns-then-d-lt48
returns-then-d-lt48 c =
    let l = c.loop-d in
    let s = c.args.s.now in
    elim c.then-d-lt48.branch [
      | then-d-lt48-via-then-d-lt48 w ↦ sym
          (l.invariant.1 ∙ low-at s l.d-index l.v c.loop-d-test.true w.if-d-lt48.true)
      | then-d-lt48-via-else-d-lt48+then-d-gt57 w ↦ sym
          (l.invariant.1 ∙ high-at s l.d-index l.v c.loop-d-test.true w.if-d-gt57.true)
    ]

pub returns-in_err-checked_mul : goal.returns-in_err-checked_mul
returns-in_err-checked_mul c =
    let l = c.loop-d in
    let s = c.args.s.now in
    let big : 2 ^ 64 ≤ more l.v (get_or s l.d-index 0) = search rules in
    c.from_residual.ensures
    ∙ sym (l.invariant.1 ∙ big-at s l.d-index l.v c.loop-d-test.true (search rules) (search rules) big)

pub returns-in_err-v : goal.returns-in_err-v
returns-in_err-v c =
    let l = c.loop-d in
    let s = c.args.s.now in
    let big : 2 ^ 64 ≤ more l.v (get_or s l.d-index 0) = search rules in
    c.from_residual-in_err-v.ensures
    ∙ sym (l.invariant.1 ∙ big-at s l.d-index l.v c.loop-d-test.true (search rules) (search rules) big)

pub loop-d-preserved : goal.loop-d-preserved
loop-d-preserved c =
    let l = c.loop-d in
    let s = c.args.s.now in
    let e : more l.v (get_or s l.d-index 0) ≡ c.in_ok-v.v = search rules in
    (search rules, l.invariant.1 ∙ rw (← e) (digit_at s l.d-index l.v c.loop-d-test.true (search rules) (search rules)))

pub returns : goal.returns
returns c = sym
    (c.loop-d.invariant.1 ∙ ends_at _ c.loop-d.d-index _ c.loop-d-test.false c.loop-d.invariant.0)
