-- `times::whole_by` meets its contract: each answer is a law of proofs/Bits.antt at the float's bits, from
-- the tests that led there. Assumes nothing.
use mathlib.Core.Path.{◌∙◌, sym, subst}
use mathlib.Core.Bool.{Bool, not}
use lib.Dec.{T}
use lib.Ieee.{binary64, fits, is_nan}
use lib.Pow.{pow_pos}
use native.Mathlib.Omega.{arith}
use borrow.Author.Rules.{rules}
use Rattle.times.proofs.Bits.{not_itself, is_number, if-negative, if-large, if-small, if-between}
use Rattle.times.proofs.Rules.{rule-whole, rule-fraction}
use Rattle.times.proofs.whole_by.Goals as goal

pub returns-then-p : goal.returns-then-p
returns-then-p c =
    let a = c.args in
    rule-whole a.rule a.p 0 (omega arith) (not_itself a.p (subst T (sym c.if-p.true) tt))

pub float_to_bits-b : goal.float_to_bits-b
float_to_bits-b c =
    let number : T (not (is_nan c.args.p)) = is_number c.args.p (subst (λ (b : Bool). T (not b)) (sym c.if-p.false) tt) in
    number

pub returns-then-b-ge-SIGN : goal.returns-then-b-ge-SIGN
returns-then-b-ge-SIGN c =
    let held : T (fits binary64 c.args.p) = subst T (sym c.well_formed.0.1) tt in
    rule-whole c.args.rule c.args.p 0 (omega arith)
    (if-negative c.args.p held c.if-b-ge-SIGN.true)

pub returns-then-exponent-ge-OF_2_TO_32 : goal.returns-then-exponent-ge-OF_2_TO_32
returns-then-exponent-ge-OF_2_TO_32 c =
    let held : T (fits binary64 c.args.p) = subst T (sym c.well_formed.0.1) tt in
    let number : T (not (is_nan c.args.p)) = is_number c.args.p (subst (λ (b : Bool). T (not b)) (sym c.if-p.false) tt) in
    rule-whole c.args.rule c.args.p 4294967295 (omega arith)
    (if-large c.args.p held c.if-b-ge-SIGN.false (search rules) number)

pub returns-then-exponent-lt-OF_HALF : goal.returns-then-exponent-lt-OF_HALF
returns-then-exponent-lt-OF_HALF c =
    let held : T (fits binary64 c.args.p) = subst T (sym c.well_formed.0.1) tt in
    rule-whole c.args.rule c.args.p 0 (omega arith)
    (if-small c.args.p held c.if-b-ge-SIGN.false c.if-exponent-lt-OF_HALF.true)

pub returns : goal.returns
returns c =
    let held : T (fits binary64 c.args.p) = subst T (sym c.well_formed.0.1) tt in
    c.nearest.ensures
    ∙ rule-fraction c.args.rule c.args.p _ _ (pow_pos _)
    (if-between c.args.p held c.if-b-ge-SIGN.false c.if-exponent-lt-OF_HALF.false c.if-exponent-ge-OF_2_TO_32.false)
